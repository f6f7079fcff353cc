-- The worked rows of labels.
use Rattle.std.proofs.Common.{ℕ, Bool, true, false, List, [], ◌∷◌, ◌++◌, ◌≡◌, Option, Some, None, refl, codes, replicate}
use Rattle.markdown_scanners_tree.specs.Kept.{kept_text}
use Rattle.markdown_scanners_tree.specs.linklabel.Label.{Label, label_of}

abbrev read : Bool → List ℕ → List ℕ → Option Label
read t s skips = label_of t (kept_text s skips)

-- "«\t\tBlurry Eyes\t\t»]" is 20
row_a : read false (194 ∷ 171 ∷ 9 ∷ 9 ∷ codes "Blurry Eyes" ++ 9 ∷ 9 ∷ 194 ∷ 187 ∷ 93 ∷ []) []
    ≡ Some (record { len = 20; text = 194 ∷ 171 ∷ codes " Blurry Eyes " ++ 194 ∷ 187 ∷ []; plain = false })
row_a = refl

-- a\ ]
row_b : read false (97 ∷ 92 ∷ 32 ∷ 93 ∷ []) [] ≡ Some (record { len = 4; text = 97 ∷ 92 ∷ []; plain = true })
row_b = refl

row_c : read false (replicate 999 97 ++ 93 ∷ []) []
    ≡ Some (record { len = 1000; text = replicate 999 97; plain = true })
row_c = refl

row_d : read false (replicate 1000 97 ++ 93 ∷ []) [] ≡ None
row_d = refl

-- "hello\r\nworld\r\n]"
row_e : read false (codes "hello" ++ 13 ∷ 10 ∷ codes "world" ++ 13 ∷ 10 ∷ 93 ∷ []) (0 ∷ 0 ∷ [])
    ≡ Some (record { len = 15; text = codes "hello world"; plain = false })
row_e = refl

row_f : read false (codes " ]") [] ≡ None
row_f = refl

-- a\|b]
row_g : read true (97 ∷ 92 ∷ 124 ∷ 98 ∷ 93 ∷ []) [] ≡ Some (record { len = 5; text = codes "a|b"; plain = false })
row_g = refl

-- a\\|b]
row_h : read true (97 ∷ 92 ∷ 92 ∷ 124 ∷ 98 ∷ 93 ∷ []) []
    ≡ Some (record { len = 6; text = 97 ∷ 92 ∷ 124 ∷ 98 ∷ []; plain = false })
row_h = refl

row_i : read false (codes "a[b]") [] ≡ None
row_i = refl

row_j : read false [] [] ≡ None
row_j = refl

row_k : read false (codes "a") [] ≡ None
row_k = refl

-- a\[b]
row_l : read false (97 ∷ 92 ∷ codes "[b]") [] ≡ Some (record { len = 5; text = 97 ∷ 92 ∷ codes "[b"; plain = true })
row_l = refl

row_m : read false (codes " a ]") [] ≡ Some (record { len = 4; text = codes "a"; plain = true })
row_m = refl

-- "a\nb]", handler None
row_n : read false (97 ∷ 10 ∷ codes "b]") [] ≡ None
row_n = refl

row_o : read false (97 ∷ 10 ∷ codes "b]") (0 ∷ []) ≡ Some (record { len = 4; text = codes "a b"; plain = false })
row_o = refl

row_p : read false (97 ∷ 10 ∷ 10 ∷ codes "b]") (0 ∷ 0 ∷ []) ≡ None
row_p = refl

row_q : read false (97 ∷ 10 ∷ codes "> b]") (2 ∷ []) ≡ Some (record { len = 6; text = codes "a b"; plain = false })
row_q = refl

-- a LF \ | b ], skips the backslash, in a table
row_r : read true (97 ∷ 10 ∷ 92 ∷ 124 ∷ 98 ∷ 93 ∷ []) (1 ∷ [])
    ≡ Some (record { len = 6; text = codes "a |b"; plain = false })
row_r = refl

row_s : read false (replicate 998 97 ++ 195 ∷ 169 ∷ 93 ∷ []) []
    ≡ Some (record { len = 1001; text = replicate 998 97 ++ 195 ∷ 169 ∷ []; plain = true })
row_s = refl

row_t : read false (replicate 999 97 ++ 32 ∷ 93 ∷ []) [] ≡ None
row_t = refl

row_u : read false (replicate 499 97 ++ 10 ∷ codes "> " ++ replicate 499 97 ++ 93 ∷ []) (2 ∷ [])
    ≡ Some (record { len = 1002; text = replicate 499 97 ++ 32 ∷ replicate 499 97; plain = false })
row_u = refl

-- "a\r\nb]"
row_v : read false (97 ∷ 13 ∷ 10 ∷ 98 ∷ 93 ∷ []) (0 ∷ []) ≡ Some (record { len = 5; text = codes "a b"; plain = false })
row_v = refl

-- "a\n\rb]"
row_w : read false (97 ∷ 10 ∷ 13 ∷ 98 ∷ 93 ∷ []) (0 ∷ 0 ∷ []) ≡ None
row_w = refl

-- "a\rX\nb]", the X skipped
row_x : read false (97 ∷ 13 ∷ 88 ∷ 10 ∷ 98 ∷ 93 ∷ []) (1 ∷ 0 ∷ []) ≡ None
row_x = refl

-- "a\n]", all skipped
row_y : read false (97 ∷ 10 ∷ 93 ∷ []) (1 ∷ []) ≡ None
row_y = refl
