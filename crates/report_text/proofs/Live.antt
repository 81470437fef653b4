-- What was read can go on to the end of a report.
use Rattle.std.proofs.Common.{◌≡◌, ℕ, zero, suc, ◌+◌, ◌-◌, ◌≤◌, ◌<◌, inl, inr, true, false, cond, leb, ltb, List, [], ◌∷◌, ◌++◌, length, drop, Option, Some, None, refl, sym, ap, ◌∙◌, subst, arith, length-append}
use Rattle.std.specs.Prelude.{codes, slice_get}
use Rattle.std.specs.List.{AllByRecursion}
use Rattle.std.specs.Ordering.{is_lt}
use Rattle.std.proofs.lemmas.Bool.{cases_lt, le-leb, and_from}
use Rattle.std.proofs.lemmas.Bool.Decides.{nat_tests}
use Rattle.state_store.specs.declared.object.ObjectDecl.{ObjectDecl}
use Rattle.state_store.specs.declared.object.Row.{Row}
use Rattle.state_store.specs.Kept.{have_widths}
use Rattle.run_model.specs.declared.fate.Fate.TheVariants.{Up}
use Rattle.run_model.specs.declared.run.Run.{Run}
use Rattle.report_text.specs.declared.head.PacketCounts.{PacketCounts}
use Rattle.report_text.specs.declared.head.EventCounts.{EventCounts}
use Rattle.report_text.specs.declared.head.Versions.{Versions}
use Rattle.report_text.specs.declared.stage.Side.{Side}
use Rattle.report_text.specs.declared.stage.Side.TheVariants.{OnServer, OnSwitch}
use Rattle.report_text.specs.declared.stage.Stage.{Stage}
use Rattle.report_text.specs.declared.stage.Stage.TheVariants.{Title, Packets, Events, Version, Drained, Fates, Server, Switch, Table, Ended}
use Rattle.report_text.specs.Form.{IsRowOf}
use Rattle.report_text.specs.Parse.{◌>>=◌, fate_of, order_of}
use Rattle.report_text.specs.Machine.{State, count_by, counts_read, ended_by, events_read, fate_read, is_after, is_behind, keys_above, next_from, order_read, part_opened, resume, row_put, row_read, run_of, server_by, server_opened, step_at, versions_read, with_left}
use Rattle.report_text.proofs.HeadLines.{AreCounts, counts_back, counts_text, events_back, events_text, versions_back, versions_text}
use Rattle.report_text.proofs.FateLines.{fate_back, fate_told}
use Rattle.report_text.proofs.PartLines.{AreBelow, count_back, order_back, order_told, part_told}
use Rattle.report_text.proofs.RowLines.{row_back, row_told}
use Rattle.report_text.proofs.Declared.{AreKnown, IsKnown, next_is}
use Rattle.report_text.proofs.Keys.{above_inside, key_above, key_fits, key_with, less_of, size}
use Rattle.report_text.proofs.Sound.{CanOrder, HasRoom, Stands, last_more, last_of}
use Rattle.std.proofs.lemmas.Option.{slice_get_within}
use Rattle.std.proofs.Math.ListN.{replicate}
use Rattle.std.proofs.lemmas.List.{length-replicate}

-- there are lines that end it
pub record IsLive (declared : List ObjectDecl) (s : State) : Type 0 where
  pub more : List (List ℕ)
  pub run : Run
  pub is : resume declared s more ≡ Some run

live_by : (declared : List ObjectDecl) (s t : State) (l : List ℕ) (st : Stage) → s.stage ≡ st → step_at declared s l st ≡ Some t → IsLive declared t → IsLive declared s
live_by declared s t l st e h live = record {
  more = l ∷ live.more;
  run = live.run;
  is = ap (λ o. o >>= (λ u. resume declared u live.more)) (ap (step_at declared s l) e ∙ h) ∙ live.is;
}

live_ended : (declared : List ObjectDecl) (s : State) → IsLive declared (record s { stage = Ended })
live_ended declared s = record { more = []; run = run_of s; is = refl }

live_switch : (declared : List ObjectDecl) (s : State) (n : ℕ) → s.stage ≡ Switch n → IsLive declared s
live_switch declared s n e = live_by declared s (record s { stage = Ended }) (codes "end") (Switch n) e refl (live_ended declared s)

no_part : (declared : List ObjectDecl) (k : AreKnown declared) (s : State) (m : ℕ) (o : ObjectDecl) → slice_get declared m ≡ Some o
    → server_opened declared s m (count_by (part_told (codes "object ") o.name 0) (slice_get declared m)) ≡ Some (with_left OnServer m 0 s)
no_part declared k s m o e =
    ap (λ x. server_opened declared s m (count_by (part_told (codes "object ") o.name 0) x)) e
    ∙ ap (server_opened declared s m) (count_back (codes "object ") o.name 0 (omega arith))
    ∙ ap (part_opened OnServer m 0 s) e

live_next : (declared : List ObjectDecl) (k : AreKnown declared) (o : Option ℕ) (s : State) (n : ℕ) → s.stage ≡ Server n → next_from n (drop n declared) ≡ o
    → ((t : State) (m : ℕ) → n ≤ m → m < length declared → t.stage ≡ Server (m + 1) → IsLive declared t) → IsLive declared s
live_next declared k None s n e next ih =
    live_by declared s (record s { stage = Ended }) (codes "end") (Server n) e (ap (server_by declared s (codes "end")) next) (live_ended declared s)
live_next declared k (Some m) s n e next ih =
    let x = next_is n (drop n declared) declared m refl next in
    let l = part_told (codes "object ") x.object.name 0 in
    live_by declared s (with_left OnServer m 0 s) l (Server n) e (ap (server_by declared s l) next ∙ no_part declared k s m x.object x.is)
    (ih (with_left OnServer m 0 s) m x.later (slice_get_within declared m x.object x.is) refl)

live_server : (declared : List ObjectDecl) (k : AreKnown declared) (fuel : ℕ) (s : State) (n : ℕ) → length declared ≤ n + fuel → s.stage ≡ Server n → IsLive declared s
live_server declared k zero s n h e = live_next declared k (next_from n (drop n declared)) s n e refl (λ t m later inside st. absurd (omega (arith, h, later, inside)))
live_server declared k (suc fuel) s n h e =
    live_next declared k (next_from n (drop n declared)) s n e refl (λ t m later inside st. live_server declared k fuel t (m + 1) (omega (arith, h, later)) st)

live_closed : (declared : List ObjectDecl) (k : AreKnown declared) (side : Side) (s : State) (m : ℕ) → IsLive declared (with_left side m 0 s)
live_closed declared k OnServer s m = live_server declared k (length declared) (with_left OnServer m 0 s) (m + 1) (omega arith) refl
live_closed declared k OnSwitch s m = live_switch declared (with_left OnSwitch m 0 s) (m + 1) refl

-- ---- rows

-- a key that leaves so many
inside : (o : ObjectDecl) (k : IsKnown o) (behind : ℕ) (last : Option Row) → HasRoom o behind last → behind < size o.keys
inside o k behind None h = let top = above_inside o.keys [] 0 k.keys in omega (arith, h, top)
inside o k behind (Some row) h = let top = above_inside o.keys row.keys 0 k.keys in omega (arith, h, top)

-- what is known of the last row
abbrev Fits : ObjectDecl → Option Row → Type 0
Fits o None = Unit {0}
Fits o (Some row) = have_widths o.keys row.keys ≡ true

comes_after : (o : ObjectDecl) (k : IsKnown o) (behind : ℕ) (last : Option Row) → HasRoom o behind last → Fits o last → is_behind last (key_with o.keys behind) ≡ true
comes_after o k behind None h f = refl
comes_after o k behind (Some row) h f =
    let top = above_inside o.keys row.keys 0 k.keys in
    let at = key_above o.keys behind k.keys (omega (arith, h, top)) in
    ap is_lt (less_of o.keys row.keys (key_with o.keys behind) 0 k.keys f (key_fits o.keys behind k.keys) (omega (arith, at, h)))

abbrev next_row : ObjectDecl → ℕ → Row
next_row o behind = record { keys = key_with o.keys behind; values = key_with o.values 0 }

row_on : (declared : List ObjectDecl) (s : State) (side : Side) (m behind : ℕ) (o : ObjectDecl) (k : IsKnown o) → slice_get declared m ≡ Some o → HasRoom o behind (last_of s.rows) → Fits o (last_of s.rows)
    → step_at declared s (row_told (next_row o behind)) (Table side m behind) ≡ Some (with_left side m behind (record s { rows = s.rows ++ next_row o behind ∷ [] }))
row_on declared s side m behind o k is room fit =
    let row = next_row o behind in
    let at = key_above o.keys behind k.keys (inside o k behind (last_of s.rows) room) in
    ap (row_read side m behind s (row_told row)) is
    ∙ ap (row_put side m behind s o) (row_back o.keys o.values row k.keys k.values (key_fits o.keys behind k.keys) (key_fits o.values 0 k.values))
    ∙ ap (λ b. cond b (Some (with_left side m behind (record s { rows = s.rows ++ row ∷ [] }))) None)
    (and_from (is_after s.rows row.keys) (leb behind (keys_above 0 o.keys row.keys)) (comes_after o k behind (last_of s.rows) room fit) (le-leb behind (keys_above 0 o.keys row.keys) (omega (arith, at))))

live_table : (declared : List ObjectDecl) (k : AreKnown declared) (side : Side) (behind : ℕ) (s : State) (m : ℕ) (o : ObjectDecl) → slice_get declared m ≡ Some o → s.stage ≡ Table side m behind → HasRoom o behind (last_of s.rows) → Fits o (last_of s.rows) → IsLive declared s
live_table declared k side zero s m o is e room fit =
    let u = record s { rows = s.rows ++ next_row o 0 ∷ [] } in
    live_by declared s (with_left side m 0 u) (row_told (next_row o 0)) (Table side m 0) e (row_on declared s side m 0 o (k.each m o is) is room fit) (live_closed declared k side u m)
live_table declared k side (suc behind) s m o is e room fit =
    let facts = k.each m o is in
    let row = next_row o (suc behind) in
    let u = record s { rows = s.rows ++ row ∷ []; stage = Table side m behind } in
    let at = key_above o.keys (suc behind) facts.keys (inside o facts (suc behind) (last_of s.rows) room) in
    let left : HasRoom o behind (Some row) = omega (arith, at) in
    let last = sym (last_more s.rows row) in
    live_by declared s u (row_told row) (Table side m (suc behind)) e (row_on declared s side m (suc behind) o facts is room fit)
    (live_table declared k side behind u m o is refl (subst (HasRoom o behind) last left) (subst (Fits o) last (key_fits o.keys (suc behind) facts.keys)))

-- ---- packets

zeros_below : (n bound : ℕ) → (0 < n → 0 < bound) → AreBelow bound (replicate n 0)
zeros_below zero bound h = tt
zeros_below (suc n) bound h = (h (omega arith), zeros_below n bound (λ some. h (omega arith)))

live_order : (declared : List ObjectDecl) (k : AreKnown declared) (s : State) → s.stage ≡ Fates → AreCounts s.counts → CanOrder s.counts → s.counts.admitted ≤ length s.fates → IsLive declared s
live_order declared k s e hc can all =
    let o = replicate s.counts.decided 0 in
    let u = record s { order = o; stage = Server 0 } in
    let done : ltb (length s.fates) s.counts.admitted ≡ false = grind (arith, nat_tests, all) in
    let found : order_of s.counts.decided s.counts.admitted (order_told o) ≡ Some o =
    subst (λ n. order_of n s.counts.admitted (order_told o) ≡ Some o) (length-replicate s.counts.decided 0) (order_back o s.counts.admitted (omega (arith, hc.admitted)) (zeros_below s.counts.decided s.counts.admitted can)) in
    live_by declared s u (order_told o) Fates e
    (ap (λ b. cond b (fate_read s (fate_of (length s.fates) (order_told o))) (order_read s (order_of s.counts.decided s.counts.admitted (order_told o)))) done ∙ ap (order_read s) found)
    (live_server declared k (length declared) u 0 (omega arith) refl)

live_fates : (declared : List ObjectDecl) (k : AreKnown declared) (fuel : ℕ) (s : State) → s.stage ≡ Fates → AreCounts s.counts → CanOrder s.counts → s.counts.admitted ≤ length s.fates + fuel → IsLive declared s
live_fates declared k zero s e hc can h = live_order declared k s e hc can (omega (arith, h))
live_fates declared k (suc fuel) s e hc can h =
    elim (cases_lt (length s.fates) s.counts.admitted) [
      | inl less ↦
          let f = Up 0 in
          let u = record s { fates = s.fates ++ f ∷ [] } in
          let go : ltb (length s.fates) s.counts.admitted ≡ true = grind (arith, nat_tests, less) in
          let line = fate_told (length s.fates) f in
          let long = length-append s.fates (f ∷ []) in
          live_by declared s u line Fates e
          (ap (λ b. cond b (fate_read s (fate_of (length s.fates) line)) (order_read s (order_of s.counts.decided s.counts.admitted line))) go
          ∙ ap (fate_read s) (fate_back (length s.fates) f (omega (arith, less, hc.admitted)) (omega arith)))
          (live_fates declared k fuel u e hc can (omega (arith, h, long)))
      | inr more ↦ live_order declared k s e hc can more
    ]

live_drained : (declared : List ObjectDecl) (k : AreKnown declared) (s : State) → s.stage ≡ Drained → AreCounts s.counts → CanOrder s.counts → IsLive declared s
live_drained declared k s e hc can =
    live_by declared s (record s { drained = true; stage = Fates }) (codes "drained yes") Drained e refl
    (live_fates declared k s.counts.admitted (record s { drained = true; stage = Fates }) refl hc can (omega arith))

live_version : (declared : List ObjectDecl) (k : AreKnown declared) (s : State) → s.stage ≡ Version → AreCounts s.counts → CanOrder s.counts → IsLive declared s
live_version declared k s e hc can =
    let v : Versions = record { version = 0; visible = 0 } in
    live_by declared s (record s { versions = v; stage = Drained }) (versions_text v) Version e (ap (versions_read s) (versions_back v (record { version = omega arith; visible = omega arith })))
    (live_drained declared k (record s { versions = v; stage = Drained }) refl hc can)

live_events : (declared : List ObjectDecl) (k : AreKnown declared) (s : State) → s.stage ≡ Events → AreCounts s.counts → CanOrder s.counts → IsLive declared s
live_events declared k s e hc can =
    let v : EventCounts = record { events = 0; idle = 0 } in
    live_by declared s (record s { events = v; stage = Version }) (events_text v) Events e (ap (events_read s) (events_back v (record { events = omega arith; idle = omega arith })))
    (live_version declared k (record s { events = v; stage = Version }) refl hc can)

live_packets : (declared : List ObjectDecl) (k : AreKnown declared) (s : State) → s.stage ≡ Packets → IsLive declared s
live_packets declared k s e =
    let c : PacketCounts = record { total = 0; admitted = 0; decided = 0; released = 0 } in
    let hc : AreCounts c = record { total = omega arith; admitted = omega arith; decided = omega arith; released = omega arith } in
    live_by declared s (record s { counts = c; stage = Events }) (counts_text c) Packets e (ap (counts_read s) (counts_back c hc))
    (live_events declared k (record s { counts = c; stage = Events }) refl hc (λ some. some))

live_title : (declared : List ObjectDecl) (k : AreKnown declared) (s : State) → s.stage ≡ Title → IsLive declared s
live_title declared k s e = live_by declared s (record s { stage = Packets }) (codes "report 1") Title e refl (live_packets declared k (record s { stage = Packets }) refl)

-- ---- every state that was read

last_fits : (o : ObjectDecl) (rows : List Row) → AllByRecursion (IsRowOf o) rows → Fits o (last_of rows)
last_fits o [] h = tt
last_fits o (row ∷ []) h = h.0.0
last_fits o (row ∷ (next ∷ rows)) h =
    let e : length (row ∷ (next ∷ rows)) - 1 ≡ suc (length (next ∷ rows) - 1) = omega arith in
    subst (λ i. Fits o (slice_get (row ∷ (next ∷ rows)) i)) (sym e) (last_fits o (next ∷ rows) h.1)

pub all_live : (declared : List ObjectDecl) (k : AreKnown declared) (st : Stage) (s : State) → s.stage ≡ st → Stands declared s st → IsLive declared s
all_live declared k Title s e f = live_title declared k s e
all_live declared k Packets s e f = live_packets declared k s e
all_live declared k Events s e f = live_events declared k s e f.counts f.can
all_live declared k Version s e f = live_version declared k s e f.0.counts f.0.can
all_live declared k Drained s e f = live_drained declared k s e f.0.counts f.0.can
all_live declared k Fates s e f = live_fates declared k s.counts.admitted s e f.1 f.2 (omega arith)
all_live declared k (Server n) s e f = live_server declared k (length declared) s n (omega arith) e
all_live declared k (Switch n) s e f = live_switch declared s n e
all_live declared k (Table side m behind) s e f = live_table declared k side behind s m f.2.0.object f.2.0.is e f.2.1 (last_fits f.2.0.object s.rows f.2.0.fit)
all_live declared k Ended s e f = record { more = []; run = run_of s; is = ap (ended_by s) e }
