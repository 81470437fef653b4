-- What holds of every chain, as the definitions give it.
use Rattle.std.specs.Prelude.{IsTrue, List, length, map, true, ℕ, ◌+◌, ◌<◌, ◌↔◌, ◌≡◌, ◌≤◌}
use Rattle.element_lang.specs.Accepted.{HasNames}
use Rattle.element_lang.specs.Meaning.{source_store, source_verdict}
use Rattle.element_lang.specs.Rules.{is_good}
use Rattle.packet_fields.specs.Arrivals.{IsArrival}
use Rattle.packet_fields.specs.declared.packet.Packet.{Packet}
use Rattle.state_store.specs.Kept.{IsKept}
use Rattle.state_store.specs.Store.{Store, object_at, start_store}
use Rattle.element_chain.proofs.EachObject.{each_object}
use Rattle.element_chain.proofs.Enough.{enough}
use Rattle.element_chain.proofs.GoodChain.{whole_good}
use Rattle.element_chain.proofs.KeptJoins.{joined_kept, kept_joined}
use Rattle.element_chain.proofs.Ranked.{calm, ranked}
use Rattle.element_chain.proofs.Ranks.{leads_so, so_leads}
use Rattle.element_chain.proofs.ReadNames.{whole_named}
use Rattle.element_chain.proofs.Starts.{starts_joined}
use Rattle.element_chain.proofs.Whole.{entry_few, whole_is_chain}
use Rattle.element_chain.specs.Chain.{Connected, chain_run, element_at, element_run, run_within, store_at}
use Rattle.element_chain.specs.Compose.{base_of, composed, joined}
use Rattle.element_chain.specs.Laws.{AreKept, IsFit, IsSmall, RepeatsBehind}
use Rattle.element_chain.specs.Wiring.{AreWithin, Leads, leads_by}
use Rattle.element_chain.specs.declared.chain.Wire.{Wire}

-- The composed middlebox does with a packet what the chain does, and leaves in its objects what the chain leaves in
-- those of its elements: from all stores that keep what was declared, for every packet that may arrive. Each store of
-- it that keeps what was declared is a store of each element, one behind the other, and so is the one that a run
-- starts with.
pub composition_keeps_the_meaning-store : (c : Connected) (stores : List Store) (packet : Packet)
    → IsFit c → AreKept c.elements stores → IsArrival packet
    → source_store (composed c) (joined stores) packet ≡ joined (chain_run c stores packet).stores
composition_keeps_the_meaning-store =
    λ chain stores packet fit kept arrives. (whole_is_chain chain stores packet (ranked chain fit) kept arrives).0

pub composition_keeps_the_meaning-verdict : (c : Connected) (stores : List Store) (packet : Packet)
    → IsFit c → AreKept c.elements stores → IsArrival packet
    → source_verdict (composed c) (joined stores) packet ≡ (chain_run c stores packet).verdict
composition_keeps_the_meaning-verdict =
    λ chain stores packet fit kept arrives. (whole_is_chain chain stores packet (ranked chain fit) kept arrives).1

pub composition_keeps_the_meaning-objects : (c : Connected) (stores : List Store) (packet : Packet) (e o : ℕ)
    → IsFit c → AreKept c.elements stores → IsArrival packet
    → e < length c.elements → o < length (element_at c.elements e).objects
    → object_at (source_store (composed c) (joined stores) packet) (base_of c.elements e + o)
    ≡ object_at (store_at (chain_run c stores packet).stores e) o
composition_keeps_the_meaning-objects =
    λ chain stores packet e o fit kept arrives lt within. each_object chain stores packet e o (ranked chain fit) kept arrives lt within

pub composition_keeps_the_meaning-joins : (c : Connected) (stores : List Store)
    → AreKept c.elements stores → IsKept (composed c).objects (joined stores)
composition_keeps_the_meaning-joins = joined_kept

pub composition_keeps_the_meaning-parts : (c : Connected) (st : Store) → IsKept (composed c).objects st
    → (stores : List Store) × AreKept c.elements stores × (st ≡ joined stores)
composition_keeps_the_meaning-parts = kept_joined

pub composition_keeps_the_meaning-start : (c : Connected)
    → start_store (composed c).objects ≡ joined (map (λ m. start_store m.objects) c.elements)
composition_keeps_the_meaning-start = starts_joined

-- The composed middlebox keeps the rules, where no element with a `repeat` stands behind a `send` within one.
pub composition_keeps_the_rules-rules : (c : Connected) → IsFit c → ((e : ℕ) → RepeatsBehind c e → ⊥) → IsSmall c
    → IsTrue (is_good (composed c))
composition_keeps_the_rules-rules = λ chain fit quiet small. whole_good chain (ranked chain fit) (calm chain fit quiet) small

pub composition_keeps_the_rules-names : (c : Connected) → IsSmall c
    → ((e : ℕ) → e < length c.elements → HasNames (element_at c.elements e)) → HasNames (composed c)
composition_keeps_the_rules-names = λ chain small have. whole_named chain small.elements (entry_few chain small) have

-- No packet goes through more elements than there are: to let it changes nothing.
pub chains_end : (c : Connected) (n : ℕ) (stores : List Store) (packet : Packet) → IsFit c → length c.elements ≤ n
    → element_run c (run_within c n) 0 stores packet ≡ chain_run c stores packet
chains_end = λ chain n stores packet fit le. enough chain (ranked chain fit) n stores packet le

-- The test whether wires lead from an element to another says so.
pub wires_lead : (wires : List Wire) (count e f : ℕ) → AreWithin count wires
    → (leads_by wires count e f ≡ true ↔ Leads wires e f)
wires_lead = λ wires count e f within. (leads_so wires count e f, so_leads wires count within)
