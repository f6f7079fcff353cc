use Rattle.markdown_inlines.proofs.searches.SearchLemmas.{searched_later}
use Rattle.markdown_inlines.proofs.piece_scanner.PieceScanner.read_to.Goals as goal

pub invariant_of-self : goal.invariant_of-self
invariant_of-self c =
    let later = rw (← c.self.view_is) at c.requires.later in
    let within = rw (← c.self.view_is) at c.requires.within in
    (c.self.invariant.0, within, searched_later c.self.inside.offset c.args.offset c.self.inside.searches later c.self.invariant.2)
