-- Chains of elements: what is wired to what, and what the whole does to a packet.
use Rattle.std.specs.Prelude.{ℕ, zero, suc, ◌==◌, ◌&&◌, List, [], ◌∷◌, length, slice_set}
use Rattle.std.specs.Prelude.{slice_index_or, Option, Some, None, if◌then◌else◌}
use Rattle.packet_fields.specs.declared.packet.Packet.{Packet}
use Rattle.packet_fields.specs.declared.verdict.Verdict.{Verdict}
use Rattle.packet_fields.specs.declared.verdict.Verdict.TheVariants.{Drop, Send}
use Rattle.state_store.specs.Store.{Store}
use Rattle.element_chain.specs.declared.chain.Target.{Target}
use Rattle.element_chain.specs.declared.chain.Target.TheVariants.{Element, Out}
use Rattle.element_chain.specs.declared.chain.Wire.{Wire}
use Rattle.element_lang.specs.Tree.{Tree}
use Rattle.element_lang.specs.Tree.BodyTree.{done}
use Rattle.element_lang.specs.Meaning.{source_store, source_verdict}

-- elements, each with its middlebox, and what is wired to what; the first element is the entry
pub record Connected : Type 0 where
  pub elements : List Tree
  pub wires : List Wire

-- the middlebox of an element; where there is none, one that drops all
abbrev pub no_element : Tree
no_element = record { objects = []; locals = []; body = done }

abbrev pub element_at : List Tree → ℕ → Tree
element_at elements e = slice_index_or elements e no_element

abbrev pub store_at : List Store → ℕ → Store
store_at stores e = slice_index_or stores e []

-- the wire at an output of an element
abbrev pub wire_at : List Wire → ℕ → ℕ → Option Wire
wire_at [] e output = None
wire_at (w ∷ ws) e output = if w.from == e && w.output == output then Some w else wire_at ws e output

-- what a chain leaves: a store for each element, and what becomes of the packet
pub record After : Type 0 where
  pub stores : List Store
  pub verdict : Verdict

abbrev pub dropped : List Store → After
dropped stores = record { stores = stores; verdict = Drop }

-- what an element does, by its number, with a packet that comes to it
abbrev pub Runs : Type 0
Runs = ℕ → List Store → Packet → After

-- bytes that have come to the end of a wire
abbrev pub arrived : Runs → Target → ℕ → List Store → List ℕ → After
arrived run Out input stores bytes = record { stores = stores; verdict = Send input bytes }
arrived run (Element e) input stores bytes = run e stores (record { port = input; bytes = bytes })

-- what goes where no wire is, goes no further
abbrev pub along : Runs → Option Wire → List Store → List ℕ → After
along run None stores bytes = dropped stores
along run (Some w) stores bytes = arrived run w.to w.input stores bytes

-- an element's verdict, passed on by its wires
abbrev pub passed_on : Runs → List Wire → ℕ → List Store → Verdict → After
passed_on run wires e stores Drop = dropped stores
passed_on run wires e stores (Send output bytes) = along run (wire_at wires e output) stores bytes

-- an element runs on a packet with its own store, and the elements behind it as `run` says
abbrev pub element_run : Connected → Runs → Runs
element_run c run e stores packet =
    let m = element_at c.elements e in
    let own = store_at stores e in
    passed_on run c.wires e (slice_set stores e (source_store m own packet)) (source_verdict m own packet)

-- the same through so many elements one after the other, and no more
abbrev pub run_within : Connected → ℕ → Runs
run_within c zero e stores packet = dropped stores
run_within c (suc n) e stores packet = element_run c (run_within c n) e stores packet

-- What a chain does to a packet that arrives. With no cycle no packet goes through more elements than there are.
abbrev pub chain_run : Connected → List Store → Packet → After
chain_run c stores packet = element_run c (run_within c (length c.elements)) 0 stores packet
