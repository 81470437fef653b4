-- No packet of a chain with no cycle goes through more elements than there are.
use Rattle.std.proofs.Common.{◌≡◌, ℕ, zero, suc, ◌<◌, ◌≤◌, List, length, refl, sym, ap, ◌∙◌, subst, arith, slice_set, Option, Some, None}
use Rattle.packet_fields.specs.declared.packet.Packet.{Packet}
use Rattle.packet_fields.specs.declared.verdict.Verdict.{Verdict}
use Rattle.packet_fields.specs.declared.verdict.Verdict.TheVariants.{Drop, Send}
use Rattle.state_store.specs.Store.{Store}
use Rattle.element_lang.specs.Meaning.{source_store, source_verdict}
use Rattle.element_chain.specs.declared.chain.Wire.{Wire}
use Rattle.element_chain.specs.declared.chain.Target.{Target}
use Rattle.element_chain.specs.declared.chain.Target.TheVariants.{Element, Out}
use Rattle.element_chain.specs.Chain.{Connected, Runs, element_at, store_at, wire_at, arrived, along, passed_on, element_run, run_within, chain_run}
use Rattle.element_chain.proofs.Ranked.{IsRanked, IsWireOf, FallsTo}
use Rattle.element_chain.proofs.Wired.{IfWire, found_at}

-- two runs of the elements of lower rank
abbrev SameBelow : Connected → (ℕ → ℕ) → ℕ → Runs → Runs → Type 0
SameBelow c rank from run other = (e : ℕ) (stores : List Store) (packet : Packet) → rank e < from → run e stores packet ≡ other e stores packet

same_arrived : (c : Connected) (rank : ℕ → ℕ) (from : ℕ) (run other : Runs) → SameBelow c rank from run other → (target : Target) (input : ℕ) (stores : List Store) (bytes : List ℕ) → FallsTo c rank from target
    → arrived run target input stores bytes ≡ arrived other target input stores bytes
same_arrived c rank from run other same Out input stores bytes falls = refl
same_arrived c rank from run other same (Element e) input stores bytes falls = same e stores (record { port = input; bytes = bytes }) falls.1

same_along : (c : Connected) (rank : ℕ → ℕ) (from e output : ℕ) (run other : Runs) → from ≡ rank e → SameBelow c rank from run other → (o : Option Wire) (stores : List Store) (bytes : List ℕ)
    → IfWire (λ (w : Wire). IsWireOf c rank w × (w.from ≡ e) × (w.output ≡ output)) o → along run o stores bytes ≡ along other o stores bytes
same_along c rank from e output run other is same None stores bytes wire = refl
same_along c rank from e output run other is same (Some w) stores bytes wire =
    same_arrived c rank from run other same w.to w.input stores bytes (subst (λ k. FallsTo c rank k w.to) (ap rank wire.1 ∙ sym is) wire.0.to)

same_passed : (c : Connected) (fit : IsRanked c) (e : ℕ) (run other : Runs) → SameBelow c fit.rank (fit.rank e) run other → (stores : List Store) (verdict : Verdict)
    → passed_on run c.wires e stores verdict ≡ passed_on other c.wires e stores verdict
same_passed c fit e run other same stores Drop = refl
same_passed c fit e run other same stores (Send output bytes) =
    same_along c fit.rank (fit.rank e) e output run other refl same (wire_at c.wires e output) stores bytes (found_at (IsWireOf c fit.rank) c.wires e output fit.wires)

same_element : (c : Connected) (fit : IsRanked c) (e : ℕ) (run other : Runs) → SameBelow c fit.rank (fit.rank e) run other → (stores : List Store) (packet : Packet)
    → element_run c run e stores packet ≡ element_run c other e stores packet
same_element c fit e run other same stores packet =
    same_passed c fit e run other same (slice_set stores e (source_store (element_at c.elements e) (store_at stores e) packet)) (source_verdict (element_at c.elements e) (store_at stores e) packet)

same_within : (c : Connected) (fit : IsRanked c) (n k e : ℕ) (stores : List Store) (packet : Packet) → fit.rank e < n → fit.rank e < k → run_within c n e stores packet ≡ run_within c k e stores packet
same_within c fit zero k e stores packet lt lt' = absurd (omega (arith, lt))
same_within c fit (suc n) zero e stores packet lt lt' = absurd (omega (arith, lt'))
same_within c fit (suc n) (suc k) e stores packet lt lt' =
    same_element c fit e (run_within c n) (run_within c k)
    (λ e' stores' packet' below. same_within c fit n k e' stores' packet' (omega (arith, lt, below)) (omega (arith, lt', below))) stores packet

-- to let it go through more changes nothing
pub enough : (c : Connected) (fit : IsRanked c) (n : ℕ) (stores : List Store) (packet : Packet) → length c.elements ≤ n → element_run c (run_within c n) 0 stores packet ≡ chain_run c stores packet
enough c fit n stores packet le =
    same_element c fit 0 (run_within c n) (run_within c (length c.elements))
    (λ e stores' packet' below. same_within c fit n (length c.elements) e stores' packet' (omega (arith, fit.few, below, le)) (omega (arith, fit.few, below))) stores packet
