use Rattle.std.proofs.Common.{◌≡◌, ◌+◌, ◌-◌, ◌*◌, ◌/◌, [], ap, ◌∙◌, get_or, get_or-take, get_or-drop, length, take, drop, take_all, length-drop, arith}
use Rattle.std.specs.Int.{w32, from_be_bytes}
use Rattle.basics.specs.Bytes.{big_endian}
use Rattle.std.specs.Simd.{first_chunks}
use Rattle.pages.specs.Image.{image_named}
use Rattle.pages.proofs.Images.{from_chunk}
use Rattle.pages.proofs.image.entries.Goals as goal

-- all the numbers after the two sizes
numbers : (c : goal.After-split_at) → (c.as_chunks.result.0.now ≡ first_chunks 4 (length (drop 8 c.args.bytes.now) / 4) (drop 8 c.args.bytes.now)) × (length c.as_chunks.result.0.now ≡ 2 * image_named c.args.bytes.now)
numbers c =
    let bs = c.args.bytes.now in
    let rest : take (length bs - 8) (drop 8 bs) ≡ drop 8 bs = take_all _ _ (omega (arith, length-drop 8 bs)) in
    (c.as_chunks.ensures.front ∙ ap (λ xs. first_chunks 4 (length xs / 4) xs) rest, omega (arith, ap length rest, length-drop 8 bs))

pub returns-clause-page : goal.returns-clause-page
returns-clause-page c = λ i l.
    let bs = c.args.bytes.now in
    let all = c.as_chunks.result.0.now in
    let long = (numbers c).1 in
    let there : get_or c.split_at.result.0.now i [] ≡ get_or all i [] = ap (λ xs. get_or xs i []) c.split_at.ensures.front ∙ get_or-take _ all i [] (omega arith) in
    ap (from_be_bytes w32) (there ∙ ap (λ xs. get_or xs i []) (numbers c).0)
    ∙ from_chunk bs 8 (length (drop 8 bs) / 4) i (omega (arith, length-drop 8 bs))

pub returns-clause-word : goal.returns-clause-word
returns-clause-word c = λ i l.
    let bs = c.args.bytes.now in
    let all = c.as_chunks.result.0.now in
    let long = (numbers c).1 in
    let n = length all / 2 in
    let half : n ≡ image_named bs = omega arith in
    let there : get_or c.split_at.result.1.now i [] ≡ get_or all (n + i) [] = ap (λ xs. get_or xs i []) c.split_at.ensures.back ∙ get_or-drop n all i [] in
    ap (from_be_bytes w32) (there ∙ ap (λ xs. get_or xs (n + i) []) (numbers c).0)
    ∙ from_chunk bs 8 (length (drop 8 bs) / 4) (n + i) (omega (arith, length-drop 8 bs))
    ∙ ap (λ m. big_endian bs (8 + 4 * (m + i))) half
