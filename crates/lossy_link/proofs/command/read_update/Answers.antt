use Rattle.std.proofs.Common.{◌≡◌, ◌*◌, ◌-◌, ◌∷◌, ◌++◌, ℕ, List, Some, get_or, length, take, drop, ap, sym, subst, ◌∙◌, arith}
use Rattle.std.proofs.lemmas.List.{take-append-drop, take_rest}
use Rattle.lossy_link.specs.Spelling.{SpellUpdate}
use Rattle.lossy_link.proofs.Spelled.{first_and_rest, named, named_parts, update_from, update_once}
use Rattle.lossy_link.proofs.command.read_update.Goals as goal

pub returns-then-rest-key_len-clause-read_back : goal.returns-then-rest-key_len-clause-read_back
returns-then-rest-key_len-clause-read_back c u s =
    let d = c.in_ok-object.object.now in
    let there = named c.args.objects.now c.as_slice.result.now c.args.bytes.now c.from.result d c.as_slice.ensures c.from.ensures c.in_ok-object.ensures.lookup.3.0 c.in_ok-object.ensures.lookup.1 in
    let parts = named_parts c.args.objects.now c.args.bytes.now c.len-key_len.result d u there c.in-len1-up.len_at_least c.len-key_len.ensures.value s in
    absurd (omega (arith, parts.long, c.if-rest-key_len.true))

pub returns-in_err-key-clause-read_back : goal.returns-in_err-key-clause-read_back
returns-in_err-key-clause-read_back c u s =
    let d = c.in_ok-object.object.now in
    let there = named c.args.objects.now c.as_slice.result.now c.args.bytes.now c.from.result d c.as_slice.ensures c.from.ensures c.in_ok-object.ensures.lookup.3.0 c.in_ok-object.ensures.lookup.1 in
    let parts = named_parts c.args.objects.now c.args.bytes.now c.len-key_len.result d u there c.in-len1-up.len_at_least c.len-key_len.ensures.value s in
    let no = c.in_err-key.ensures.read_back u.key parts.key in
    absurd cc

pub returns-in_err-to-clause-read_back : goal.returns-in_err-to-clause-read_back
returns-in_err-to-clause-read_back c u s =
    let d = c.in_ok-object.object.now in
    let there = named c.args.objects.now c.as_slice.result.now c.args.bytes.now c.from.result d c.as_slice.ensures c.from.ensures c.in_ok-object.ensures.lookup.3.0 c.in_ok-object.ensures.lookup.1 in
    let parts = named_parts c.args.objects.now c.args.bytes.now c.len-key_len.result d u there c.in-len1-up.len_at_least c.len-key_len.ensures.value s in
    let no = c.in_err-to.ensures.read_back u.to parts.to in
    absurd cc

pub returns-clause-some : goal.returns-clause-some
returns-clause-some c =
    let objects = c.args.objects.now in
    let bytes = c.args.bytes.now in
    let d = c.in_ok-object.object.now in
    let o = get_or bytes 0 0 in
    let there = named objects c.as_slice.result.now bytes c.from.result d c.as_slice.ensures c.from.ensures c.in_ok-object.ensures.lookup.3.0 c.in_ok-object.ensures.lookup.1 in
    let rest = take (length bytes - 1) (drop 1 bytes) in
    let k = 8 * c.len-key_len.result in
    let key = c.in_ok-key.key in
    let to = c.in_ok-to.to in
    let parts : rest ≡ take k rest ++ take (length rest - k) (drop k rest) =
    sym (take-append-drop k rest) ∙ ap (λ (b : List ℕ). take k rest ++ b) (sym (take_rest rest k)) in
    let made : SpellUpdate objects (record { object = o; key = key; to = to }) (o ∷ rest) =
    update_from objects o d key (take k rest) (take (length rest - k) (drop k rest)) rest to there
    c.in_ok-key.ensures.some c.in_ok-to.ensures.some parts in
    subst (λ (n : ℕ). SpellUpdate objects (record { object = n; key = key; to = to }) bytes) (sym c.from-2.ensures)
    (subst (λ (b : List ℕ). SpellUpdate objects (record { object = o; key = key; to = to }) b) (sym (first_and_rest bytes c.in-len1-up.len_at_least)) made)

pub returns-clause-read_back : goal.returns-clause-read_back
returns-clause-read_back c u s =
    let d = c.in_ok-object.object.now in
    let there = named c.args.objects.now c.as_slice.result.now c.args.bytes.now c.from.result d c.as_slice.ensures c.from.ensures c.in_ok-object.ensures.lookup.3.0 c.in_ok-object.ensures.lookup.1 in
    let parts = named_parts c.args.objects.now c.args.bytes.now c.len-key_len.result d u there c.in-len1-up.len_at_least c.len-key_len.ensures.value s in
    let rest = take (length c.args.bytes.now - 1) (drop 1 c.args.bytes.now) in
    subst (λ (m : ℕ). Some (record { object = m; key = c.in_ok-key.key; to = c.in_ok-to.to }) ≡ Some u) (sym c.from-2.ensures)
    (update_once (get_or c.args.bytes.now 0 0) c.len-key_len.result d c.in_ok-key.key c.in_ok-to.to u rest parts
    (c.in_ok-key.ensures.read_back u.key parts.key) (c.in_ok-to.ensures.read_back u.to parts.to))
