-- What a source does to the packets of a trace, which go by their numbers.
use Rattle.std.specs.Prelude.{List}
use Rattle.packet_fields.specs.declared.packet.Packet.{Packet}
use Rattle.element_lang.specs.Tree.{Tree}
use Rattle.element_lang.specs.Meaning.{source_store, source_verdict}
use Rattle.run_model.specs.Meaning.{Meaning, packet_at}

abbrev pub source_of : Tree → List Packet → Meaning
source_of m packets = record {
  objects = m.objects;
  after = λ store n. source_store m store (packet_at packets n);
  verdict = λ store n. source_verdict m store (packet_at packets n);
}
