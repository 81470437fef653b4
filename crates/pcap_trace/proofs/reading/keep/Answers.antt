use Rattle.std.proofs.Common.{ℕ, List, [], ◌∷◌, ◌++◌, ap, ◌∙◌, arith}
use Rattle.pcap_trace.specs.Reading.{record_with}
use Rattle.pcap_trace.specs.Records.{most_records}
use Rattle.pcap_trace.proofs.RecordLoop.{kept_full, kept_more}
use Rattle.pcap_trace.proofs.reading.keep.Goals as goal

pub returns-in_ok-push : goal.returns-in_ok-push
returns-in_ok-push c =
    let items = c.args.records.now.items in
    let h = c.args.header in
    c.in_ok-push.ensures.items
    ∙ (ap (λ (bytes : List ℕ). items ++ record_with h bytes ∷ []) c.in_ok-bytes.ensures
    ∙ kept_more most_records items (record_with h c.args.bytes.now) (omega arith))

pub returns-else-len-lt-MAX_RECORDS : goal.returns-else-len-lt-MAX_RECORDS
returns-else-len-lt-MAX_RECORDS c =
    kept_full most_records c.args.records.now.items (record_with c.args.header c.args.bytes.now) (omega arith) (omega arith)
