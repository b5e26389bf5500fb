-- Laws of half bytes and of texts one after the other. Assumes nothing.
use Rattle.std.proofs.Common.{◌≡◌, ℕ, ◌+◌, ◌*◌, ◌/◌, ◌%◌, ◌<◌, List, [], ◌∷◌, ◌++◌, map, length, get_or, take, sym, ap, ◌∙◌, Bor}
use lib.Arith.{digits_div, digits_mod}
use Rattle.std.proofs.lemmas.List.{append-nil, append_assoc, map-append, take_more}
use Rattle.gorsepick.specs.Digits.{halves, digit_value, joined}

-- one more byte, of two halves
pub halves_push : (bs : List ℕ) (h v : ℕ) → v < 16 → halves (bs ++ (h * 16 + v) ∷ []) ≡ (halves bs ++ h ∷ []) ++ v ∷ []
halves_push [] h v l = ap (λ q. q ∷ (h * 16 + v) % 16 ∷ []) (digits_div h l) ∙ ap (λ m. h ∷ m ∷ []) (digits_mod h l)
halves_push (b ∷ bs) h v l = ap (λ hs. (b / 16) ∷ (b % 16) ∷ hs) (halves_push bs h v l)

joined_push : (ws : List (Bor (List ℕ))) (w : Bor (List ℕ)) → joined (ws ++ w ∷ []) ≡ joined ws ++ w.now
joined_push [] w = append-nil w.now
joined_push (x ∷ ws) w = ap (λ s. x.now ++ s) (joined_push ws w) ∙ sym (append_assoc x.now (joined ws) w.now)

-- one more word of digits
pub joined_more : (ws : List (Bor (List ℕ))) (i : ℕ) → i < length ws
    → let w = (get_or ws i (record { ref_ptr = (0, 0); now = [] })).now in
    map digit_value (joined (take (i + 1) ws)) ≡ map digit_value (joined (take i ws)) ++ map digit_value w
joined_more ws i l =
    let w = get_or ws i (record { ref_ptr = (0, 0); now = [] }) in
    ap (map digit_value) (ap joined (take_more ws i _ l) ∙ joined_push (take i ws) w) ∙ map-append digit_value (joined (take i ws)) w.now
