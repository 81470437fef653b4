use Rattle.pcap_trace.proofs.OneAnswer.{answers_of, capture_is_found, refusal_is_found}
use Rattle.pcap_trace.proofs.reading.read_pcap.Goals as goal

pub returns-clause-found : goal.returns-clause-found
returns-clause-found c =
    capture_is_found c.args.bytes.now c.read.result
    (answers_of c.args.bytes.now c.read.result c.read.ensures.ok c.read.ensures.taken c.read.ensures.refused)

pub returns-clause-exact : goal.returns-clause-exact
returns-clause-exact c =
    refusal_is_found c.args.bytes.now c.read.result
    (answers_of c.args.bytes.now c.read.result c.read.ensures.ok c.read.ensures.taken c.read.ensures.refused)
