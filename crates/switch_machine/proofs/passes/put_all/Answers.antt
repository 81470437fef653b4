use Rattle.std.proofs.Common.{◌≡◌, ◌∙◌, ◌<◌, ◌+◌, ℕ, List, ◌∷◌, length, drop, slice_index, sym, ap, arith, add-one, drop-cons}
use Rattle.transfer_header.specs.Registers.{placed, Registers}
use Rattle.switch_machine.specs.Ready.{all_placed, paired}
use Rattle.lemmas.proofs.Lists.{drop_past}
use Rattle.switch_machine.proofs.passes.put_all.Goals as goal

ahead_at : (xs : List ℕ) (i : ℕ) → i < length xs → drop i xs ≡ slice_index xs i ∷ drop (i + 1) xs
ahead_at xs i lt = drop-cons xs i 0 lt ∙ ap (λ n. slice_index xs i ∷ drop n xs) (sym (add-one i))

put_next : (places numbers : List ℕ) (i : ℕ) (before after total : Registers) → i < length places → i < length numbers
    → after ≡ placed before (slice_index places i) (slice_index numbers i)
    → all_placed before (paired (drop i places) (drop i numbers)) ≡ total
    → all_placed after (paired (drop (i + 1) places) (drop (i + 1) numbers)) ≡ total
put_next places numbers i before after total lt under more so = rw more (rw (ahead_at places i lt, ahead_at numbers i under) at so)

pub loop-index-preserved : goal.loop-index-preserved
loop-index-preserved c =
    let places = c.args.places.now in
    let numbers = c.args.numbers.now in
    put_next places numbers c.loop-index.index c.loop-index.registers c.set_at.new.self (all_placed c.args.registers.now (paired places numbers))
    (omega (arith, c.loop-index-test.true)) (omega (arith, c.loop-index-test.true, c.requires)) c.set_at.ensures c.loop-index.invariant

pub returns : goal.returns
returns c = rw (drop_past c.args.places.now c.loop-index.index (omega (arith, c.loop-index-test.false))) at c.loop-index.invariant
