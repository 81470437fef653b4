use Rattle.std.proofs.Common.{◌≡◌, ℕ, ◌+◌, ◌-◌, [], ◌∷◌, ◌++◌, take, drop, refl, ap, ◌∙◌, arith}
use Rattle.pcap_trace.specs.Reading.{record_with}
use Rattle.pcap_trace.specs.Records.{most_records}
use Rattle.pcap_trace.proofs.RecordLoop.{kept_few, none_so_far, one_more, part_are_bytes, records_are_taken, whole_is_read}
use Rattle.pcap_trace.proofs.reading.records_behind.Goals as goal

pub loop-at-init : goal.loop-at-init
loop-at-init c = rw c.new-records.ensures.items (none_so_far c.args.header c.args.bytes.now c.requires)

pub keep-requires : goal.keep-requires
keep-requires c =
    kept_few c.args.header c.args.bytes.now c.loop-at.records.items c.loop-at.count c.loop-at.at c.loop-at.invariant

pub loop-at-preserved : goal.loop-at-preserved
loop-at-preserved c =
    let bytes = c.args.bytes.now in
    let items = c.loop-at.records.items in
    let at = c.loop-at.at in
    let h = c.in_ok-found.found in
    let size : at + 16 + h.captured - (at + 16) ≡ h.captured = omega arith in
    one_more c.args.header bytes items c.keep.new.records.items c.loop-at.count at (at + 16 + h.captured) h
    (take h.captured (drop (at + 16) bytes)) c.loop-at.invariant c.in_ok-found.ensures.ok (omega arith) refl refl
    (part_are_bytes h.captured (at + 16) bytes (λ i. omega (arith, c.type_inv.bytes i)))
    (c.in_ok-keep.ensures
    ∙ ap (λ (n : ℕ). take most_records (items ++ record_with h (take n (drop (at + 16) bytes)) ∷ [])) size)

pub of-requires : goal.of-requires
of-requires c =
    records_are_taken c.args.header c.args.bytes.now c.loop-at.records.items c.loop-at.count c.loop-at.at c.loop-at.invariant
    (omega arith) (omega arith)

pub returns-clause-ok : goal.returns-clause-ok
returns-clause-ok c =
    rw c.of.ensures (whole_is_read c.args.header c.args.bytes.now c.loop-at.records.items c.loop-at.count c.loop-at.at
    c.loop-at.invariant (omega arith) (omega arith))
