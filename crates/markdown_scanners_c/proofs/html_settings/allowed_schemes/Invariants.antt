-- The texts are those of the schemes so far.
use Rattle.std.proofs.Common.{◌≡◌, map, take}
use Rattle.markdown_scanners_c.proofs.html_settings.allowed_schemes.Given as goal

abbrev pub invariant-loop-scheme : goal.invariant-loop-scheme
invariant-loop-scheme l = map (λ text. text.now) l.texts.items ≡ map (λ scheme. scheme.text.now) (take l.scheme-index l.schemes)
