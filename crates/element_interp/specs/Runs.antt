-- What the interpreter's values stand for.
use Rattle.std.specs.Prelude.{ℕ, List, map}
use Rattle.packet_fields.specs.declared.packet.Packet.{Packet}
use Rattle.state_store.specs.Store.{Store}
use Rattle.element_lang.specs.Meaning.{State}
use Rattle.element_interp.specs.declared.frame.Frame.{Frame}
use Rattle.element_interp.specs.declared.value.Variables.{Variables}
use Rattle.element_interp.specs.Fields.{fields_over}

abbrev pub packet_of : Frame → Packet
packet_of frame = record { port = frame.port; bytes = frame.bytes.now }

abbrev pub frame_widths : Frame → List ℕ
frame_widths frame = map (λ l. l.width) frame.locals.now

-- a field that isn't assigned has the value with which it arrived
abbrev pub state_of : Frame → Variables → Store → State
state_of frame vars store = record {
  locals = vars.locals.items;
  fields = fields_over vars.fields frame.bytes.now frame.port;
  store = store;
}
