-- The lines of a report in the form are read, to its run.
use Rattle.std.proofs.Common.{◌≡◌, ℕ, zero, suc, ◌+◌, ◌≤◌, ◌<◌, Bool, true, false, ◌||◌, cond, eqb, leb, ltb, List, [], ◌∷◌, ◌++◌, length, drop, map, Option, Some, None, refl, sym, ap, ◌∙◌, subst, arith, append_assoc, length-append}
use Rattle.std.specs.Prelude.{codes, slice_get}
use Rattle.std.specs.Str.{bytes_eq}
use Rattle.std.specs.List.{AllByRecursion}
use Rattle.std.specs.Ordering.{is_lt}
use Rattle.std.proofs.lemmas.Bool.{le-leb, and_from}
use Rattle.std.proofs.lemmas.List.{append-nil}
use Rattle.std.proofs.lemmas.Bool.Decides.{nat_tests}
use Rattle.state_store.specs.declared.object.ObjectDecl.{ObjectDecl}
use Rattle.state_store.specs.declared.object.Row.{Row}
use Rattle.run_model.specs.declared.fate.Fate.{Fate}
use Rattle.run_model.specs.declared.run.ObjectRows.{ObjectRows}
use Rattle.run_model.specs.declared.run.Run.{Run}
use Rattle.run_text.specs.Report.{name_in}
use Rattle.report_text.specs.declared.head.PacketCounts.{PacketCounts}
use Rattle.report_text.specs.declared.head.EventCounts.{EventCounts}
use Rattle.report_text.specs.declared.head.Versions.{Versions}
use Rattle.report_text.specs.declared.stage.Side.{Side}
use Rattle.report_text.specs.declared.stage.Side.TheVariants.{OnServer, OnSwitch}
use Rattle.report_text.specs.declared.stage.Stage.{Stage}
use Rattle.report_text.specs.declared.stage.Stage.TheVariants.{Fates, Server, Switch, Table, Ended}
use Rattle.report_text.specs.Form.{AreInOrder, AreRising, InForm, IsBelow, IsFate, IsPart, IsRowOf, are_widths, kept_from}
use Rattle.report_text.specs.Parse.{◌>>=◌, order_of, count_of}
use Rattle.report_text.specs.Machine.{State, at_start, closed_by, count_by, has_keys, is_after, is_behind, keys_above, part_opened, resume, row_put, row_read, run_of, server_by, server_opened, shown_from, shown_opened, step, step_at, switch_read, with_left}
use Rattle.report_text.proofs.HeadLines.{AreCounts, AreEvents, AreVersions, counts_back, events_back, versions_back}
use Rattle.report_text.proofs.FateLines.{fate_back}
use Rattle.report_text.proofs.PartLines.{AreBelow, count_back, order_back, order_told, part_told}
use Rattle.report_text.proofs.RowLines.{row_back, row_told}
use Rattle.report_text.proofs.Told.{counts_in, events_in, fates_told, head_told, name_of, parts_told, report_told, versions_in}
use Rattle.report_text.proofs.Declared.{AreKnown, IsKnown, next_is, next_kept, shown_back}
use Rattle.report_text.proofs.Keys.{fewer_above, first_most}
use Rattle.report_text.proofs.Sound.{keys_suc, last_more, numbers_of}
use Rattle.lemmas.proofs.Tests.{or_true}

-- ---- the first lines

-- behind them
abbrev pub at_fates : PacketCounts → EventCounts → Versions → Bool → List Fate → State
at_fates c e v d fs =
    record { counts = c; events = e; versions = v; drained = d; fates = fs; order = []; server = []; switch = []; rows = []; stage = Fates }

head_read : (declared : List ObjectDecl) (c : PacketCounts) (e : EventCounts) (v : Versions) (d : Bool) (ls : List (List ℕ)) → AreCounts c → (eqb c.decided 0 || ltb 0 c.admitted) ≡ true → AreEvents e → AreVersions v
    → resume declared at_start (head_told c e v d ++ ls) ≡ resume declared (at_fates c e v d []) ls
head_read declared c e v true ls hc can he hv = rw (counts_back c hc) (rw can (rw (events_back e he) (rw (versions_back v hv) refl)))
head_read declared c e v false ls hc can he hv = rw (counts_back c hc) (rw can (rw (events_back e he) (rw (versions_back v hv) refl)))

-- ---- packets

fates_read : (declared : List ObjectDecl) (c : PacketCounts) (e : EventCounts) (v : Versions) (d : Bool) (before fs : List Fate) (ls : List (List ℕ)) → AreCounts c → AllByRecursion IsFate fs → length before + length fs ≡ c.admitted
    → resume declared (at_fates c e v d before) (fates_told (length before) fs ++ ls) ≡ resume declared (at_fates c e v d (before ++ fs)) ls
fates_read declared c e v d before [] ls hc h total = ap (λ l. resume declared (at_fates c e v d l) ls) (sym (append-nil before))
fates_read declared c e v d before (f ∷ fs) ls hc h total =
    let less : ltb (length before) c.admitted ≡ true = grind (arith, nat_tests, total) in
    let long : length (before ++ f ∷ []) ≡ suc (length before) = omega (arith, length-append before (f ∷ [])) in
    let more : length (before ++ f ∷ []) + length fs ≡ c.admitted = omega (arith, long, total) in
    rw less (rw (fate_back (length before) f (omega (arith, total, hc.admitted)) h.0)
    (ap (λ n. resume declared (at_fates c e v d (before ++ f ∷ [])) (fates_told n fs ++ ls)) (sym long)
    ∙ fates_read declared c e v d (before ++ f ∷ []) fs ls hc h.1 more
    ∙ ap (λ l. resume declared (at_fates c e v d l) ls) (append_assoc before (f ∷ []) fs)))

-- ---- the order

abbrev pub at_server : PacketCounts → EventCounts → Versions → Bool → List Fate → List ℕ → List ObjectRows → ℕ → State
at_server c e v d fs o ps n =
    record { counts = c; events = e; versions = v; drained = d; fates = fs; order = o; server = ps; switch = []; rows = []; stage = Server n }

order_read : (declared : List ObjectDecl) (c : PacketCounts) (e : EventCounts) (v : Versions) (d : Bool) (fs : List Fate) (o : List ℕ) (ls : List (List ℕ)) → AreCounts c → length fs ≡ c.admitted → length o ≡ c.decided → AreBelow c.admitted o
    → resume declared (at_fates c e v d fs) (order_told o ∷ ls) ≡ resume declared (at_server c e v d fs o [] 0) ls
order_read declared c e v d fs o ls hc all many h =
    let done : ltb (length fs) c.admitted ≡ false = grind (arith, nat_tests, all) in
    let found : order_of c.decided c.admitted (order_told o) ≡ Some o = subst (λ n. order_of n c.admitted (order_told o) ≡ Some o) many (order_back o c.admitted (omega (arith, hc.admitted)) h) in
    rw done (rw found refl)

-- ---- rows

-- a row may follow these
abbrev Follows : List Row → List Row → Type 0
Follows before [] = Unit {0}
Follows before (row ∷ rows) = is_after before row.keys ≡ true

follows_more : (before : List Row) (row : Row) (rows : List Row) → IsBelow row.keys rows → Follows (before ++ row ∷ []) rows
follows_more before row [] h = tt
follows_more before row (next ∷ rows) h = ap (λ o. is_behind o next.keys) (last_more before row) ∙ ap is_lt h

rows_fit : (object : ObjectDecl) (row : Row) (rows : List Row) → are_widths object.keys ≡ true → AllByRecursion (IsRowOf object) (row ∷ rows) → AreRising (row ∷ rows) → length rows ≤ keys_above 0 object.keys row.keys
rows_fit object row [] wide fit rising = omega arith
rows_fit object row (next ∷ rows) wide fit rising =
    let more = rows_fit object next rows wide fit.1 rising.1 in
    let fewer = fewer_above object.keys row.keys next.keys 0 wide fit.0.0 fit.1.0.0 rising.0 in
    omega (arith, more, fewer)

row_step : (declared : List ObjectDecl) (s : State) (side : Side) (m behind : ℕ) (object : ObjectDecl) (row : Row) → s.stage ≡ Table side m behind → slice_get declared m ≡ Some object → IsKnown object
    → IsRowOf object row → is_after s.rows row.keys ≡ true → behind ≤ keys_above 0 object.keys row.keys
    → step declared s (row_told row) ≡ Some (with_left side m behind (record s { rows = s.rows ++ row ∷ [] }))
row_step declared s side m behind object row st is k fit follows room =
    ap (step_at declared s (row_told row)) st
    ∙ ap (row_read side m behind s (row_told row)) is
    ∙ ap (row_put side m behind s object) (row_back object.keys object.values row k.keys k.values fit.0 fit.1)
    ∙ ap (λ b. cond b (Some (with_left side m behind (record s { rows = s.rows ++ row ∷ [] }))) None)
    (and_from (is_after s.rows row.keys) (leb behind (keys_above 0 object.keys row.keys)) follows (le-leb behind (keys_above 0 object.keys row.keys) room))

-- the part of an object whose rows are these
abbrev part_with : ℕ → List Row → ObjectRows
part_with m rows = record { object = m; rows = rows }

closed_same : (side : Side) (s : State) (p : ObjectRows) (rows : List Row) (st : Stage) → closed_by side p (record s { rows = rows; stage = st }) ≡ closed_by side p s
closed_same OnServer s p rows st = refl
closed_same OnSwitch s p rows st = refl

rows_read : (declared : List ObjectDecl) (s : State) (side : Side) (m behind : ℕ) (object : ObjectDecl) (rows : List Row) (ls : List (List ℕ)) → s.stage ≡ Table side m behind → slice_get declared m ≡ Some object → IsKnown object
    → length rows ≡ suc behind → AllByRecursion (IsRowOf object) rows → AreRising rows → Follows s.rows rows
    → resume declared s (map row_told rows ++ ls) ≡ resume declared (closed_by side (part_with m (s.rows ++ rows)) s) ls
rows_read declared s side m behind object [] ls st is k long fit rising follows = absurd (omega (arith, long))
rows_read declared s side m behind object (row ∷ []) ls st is k long fit rising follows =
    let none : behind ≡ 0 = omega (arith, long) in
    let at : s.stage ≡ Table side m 0 = st ∙ ap (Table side m) none in
    ap (λ o. o >>= (λ t. resume declared t ls)) (row_step declared s side m 0 object row at is k fit.0 follows (omega arith))
    ∙ ap (λ u. resume declared u ls) (closed_same side s (part_with m (s.rows ++ row ∷ [])) (s.rows ++ row ∷ []) s.stage)
rows_read declared s side m zero object (row ∷ (next ∷ rows)) ls st is k long fit rising follows = absurd (omega (arith, long))
rows_read declared s side m (suc behind) object (row ∷ (next ∷ rows)) ls st is k long fit rising follows =
    let u = record s { rows = s.rows ++ row ∷ []; stage = Table side m behind } in
    let room = rows_fit object row (next ∷ rows) k.keys fit rising in
    let few : length (next ∷ rows) ≡ suc behind = omega (arith, long) in
    ap (λ o. o >>= (λ t. resume declared t (map row_told (next ∷ rows) ++ ls))) (row_step declared s side m (suc behind) object row st is k fit.0 follows (omega (arith, room, few)))
    ∙ rows_read declared u side m behind object (next ∷ rows) ls refl is k few fit.1 rising.1 (follows_more s.rows row (next ∷ rows) rising.0)
    ∙ ap (λ r. resume declared (closed_by side (part_with m r) u) ls) (append_assoc s.rows (row ∷ []) (next ∷ rows))
    ∙ ap (λ t. resume declared t ls) (closed_same side s (part_with m (s.rows ++ row ∷ (next ∷ rows))) (s.rows ++ row ∷ []) (Table side m behind))

-- ---- parts

has_room : (object : ObjectDecl) (rows : List Row) → are_widths object.keys ≡ true → AllByRecursion (IsRowOf object) rows → AreRising rows → has_keys (length rows) object.keys ≡ true
has_room object [] wide fit rising = refl
has_room object (row ∷ rows) wide fit rising =
    keys_suc (length rows) object.keys ∙ le-leb (length rows) (keys_above 0 object.keys []) (omega (arith, rows_fit object row rows wide fit rising, first_most object.keys row.keys 0 0 (omega arith)))

-- behind the line that begins it
opened_read : (declared : List ObjectDecl) (s : State) (side : Side) (m : ℕ) (object : ObjectDecl) (rows : List Row) (ls : List (List ℕ)) → s.rows ≡ [] → slice_get declared m ≡ Some object → IsKnown object
    → AllByRecursion (IsRowOf object) rows → AreRising rows
    → (part_opened side m (length rows) s (slice_get declared m) >>= (λ t. resume declared t (map row_told rows ++ ls))) ≡ resume declared (closed_by side (part_with m rows) s) ls
opened_read declared s side m object [] ls none is k fit rising =
    ap (λ o. part_opened side m 0 s o >>= (λ t. resume declared t ls)) is ∙ ap (λ r. resume declared (closed_by side (part_with m r) s) ls) none
opened_read declared s side m object (row ∷ rows) ls none is k fit rising =
    let keys = has_room object (row ∷ rows) k.keys fit rising in
    let u = record s { stage = Table side m (length rows) } in
    let first : is_after u.rows row.keys ≡ true = ap (λ r. is_after r row.keys) none in
    ap (λ o. part_opened side m (suc (length rows)) s o >>= (λ t. resume declared t (map row_told (row ∷ rows) ++ ls))) is
    ∙ ap (λ b. cond b (Some u) None >>= (λ t. resume declared t (map row_told (row ∷ rows) ++ ls))) keys
    ∙ rows_read declared u side m (length rows) object (row ∷ rows) ls refl is k refl fit rising first
    ∙ ap (λ r. resume declared (closed_by side (part_with m (r ++ row ∷ rows)) u) ls) none
    ∙ ap (λ t. resume declared t ls) (closed_same side s (part_with m (row ∷ rows)) s.rows (Table side m (length rows)))

-- what a switch line tells doesn't hang on what was awaited
with_same : (side : Side) (m left : ℕ) (s : State) (st : Stage) → with_left side m left (record s { stage = st }) ≡ with_left side m left s
with_same side m zero s st = closed_same side s (part_with m s.rows) s.rows st
with_same side m (suc behind) s st = refl

opened_same : (side : Side) (m count : ℕ) (s : State) (st : Stage) (o : Option ObjectDecl) → part_opened side m count (record s { stage = st }) o ≡ part_opened side m count s o
opened_same side m count s st None = refl
opened_same side m count s st (Some object) = ap (λ t. cond (has_keys count object.keys) (Some t) None) (with_same side m count s st)

shown_same : (declared : List ObjectDecl) (s : State) (st : Stage) (o : Option (ℕ × ℕ)) → shown_opened declared (record s { stage = st }) o ≡ shown_opened declared s o
shown_same declared s st None = refl
shown_same declared s st (Some x) = opened_same OnSwitch x.0 x.1 s st (slice_get declared x.0)

switch_same : (declared : List ObjectDecl) (s : State) (st : Stage) (n : ℕ) (l : List ℕ) → switch_read declared (record s { stage = st }) n l ≡ switch_read declared s n l
switch_same declared s st n l = ap (λ o. cond (bytes_eq l (codes "end")) (Some (record s { stage = Ended })) o) (shown_same declared s st (shown_from n (drop n declared) l))

abbrev pub at_switch : PacketCounts → EventCounts → Versions → Bool → List Fate → List ℕ → List ObjectRows → List ObjectRows → ℕ → State
at_switch c e v d fs o ps qs n =
    record { counts = c; events = e; versions = v; drained = d; fates = fs; order = o; server = ps; switch = qs; rows = []; stage = Switch n }

gone_read : (declared : List ObjectDecl) (c : PacketCounts) (e : EventCounts) (v : Versions) (d : Bool) (fs : List Fate) (o : List ℕ) (ps : List ObjectRows) (n : ℕ) (ls : List (List ℕ)) → kept_from n (drop n declared) ≡ []
    → resume declared (at_server c e v d fs o ps n) ls ≡ resume declared (at_switch c e v d fs o ps [] 0) ls
gone_read declared c e v d fs o ps n [] none = refl
gone_read declared c e v d fs o ps n (l ∷ ls) none =
    ap (λ x. server_by declared (at_server c e v d fs o ps n) l x >>= (λ t. resume declared t ls)) (next_kept n (drop n declared) [] none)
    ∙ ap (λ x. x >>= (λ t. resume declared t ls)) (switch_same declared (at_switch c e v d fs o ps [] 0) (Server n) 0 l)

part_begun : (declared : List ObjectDecl) (word : List ℕ) (m count : ℕ) (object : ObjectDecl) → slice_get declared m ≡ Some object → part_told word (name_of declared m) count ≡ part_told word object.name count
part_begun declared word m count object is = ap (λ x. part_told word (name_in x) count) is

server_parts : (declared : List ObjectDecl) (k : AreKnown declared) (c : PacketCounts) (e : EventCounts) (v : Versions) (d : Bool) (fs : List Fate) (o : List ℕ) (before ps : List ObjectRows) (n : ℕ) (ls : List (List ℕ)) → AllByRecursion (IsPart declared) ps → numbers_of ps ≡ kept_from n (drop n declared)
    → resume declared (at_server c e v d fs o before n) (parts_told (codes "object ") declared ps ++ ls) ≡ resume declared (at_switch c e v d fs o (before ++ ps) [] 0) ls
server_parts declared k c e v d fs o before [] n ls h numbers =
    gone_read declared c e v d fs o before n ls (sym numbers) ∙ ap (λ ps. resume declared (at_switch c e v d fs o ps [] 0) ls) (sym (append-nil before))
server_parts declared k c e v d fs o before (p ∷ ps) n ls h numbers =
    let s = at_server c e v d fs o before n in
    let m = p.object in
    let x = h.0 in
    let next = next_kept n (drop n declared) (m ∷ numbers_of ps) (sym numbers) in
    let place = next_is n (drop n declared) declared m refl next in
    let begin = part_told (codes "object ") (name_of declared m) (length p.rows) in
    let rest = parts_told (codes "object ") declared ps ++ ls in
    let count : count_by begin (slice_get declared m) ≡ Some (length p.rows) =
    ap (count_by begin) x.is ∙ ap (count_of (codes "object ") x.object.name) (part_begun declared (codes "object ") m (length p.rows) x.object x.is)
    ∙ count_back (codes "object ") x.object.name (length p.rows) (omega (arith, x.few)) in
    let one : step declared s begin ≡ part_opened OnServer m (length p.rows) s (slice_get declared m) =
    ap (server_by declared s begin) next ∙ ap (server_opened declared s m) count in
    let later : numbers_of ps ≡ kept_from (m + 1) (drop (m + 1) declared) =
    let tails : m ∷ numbers_of ps ≡ m ∷ kept_from (suc m) (drop (suc m) declared) = numbers ∙ place.kept in
    let up : suc m ≡ m + 1 = omega arith in
    ap (drop 1) tails ∙ ap (λ j. kept_from j (drop j declared)) up in
    ap (λ l. step declared s begin >>= (λ t. resume declared t l)) (append_assoc (map row_told p.rows) (parts_told (codes "object ") declared ps) ls)
    ∙ ap (λ o. o >>= (λ t. resume declared t (map row_told p.rows ++ rest))) one
    ∙ opened_read declared s OnServer m x.object p.rows rest refl x.is (k.each m x.object x.is) x.rows x.rising
    ∙ server_parts declared k c e v d fs o (before ++ p ∷ []) ps (m + 1) ls h.1 later
    ∙ ap (λ l. resume declared (at_switch c e v d fs o l [] 0) ls) (append_assoc before (p ∷ []) ps)

switch_parts : (declared : List ObjectDecl) (k : AreKnown declared) (c : PacketCounts) (e : EventCounts) (v : Versions) (d : Bool) (fs : List Fate) (o : List ℕ) (server before ps : List ObjectRows) (n : ℕ) → AllByRecursion (IsPart declared) ps → AreInOrder n ps
    → resume declared (at_switch c e v d fs o server before n) (parts_told (codes "switch ") declared ps ++ (codes "end" ∷ [])) ≡ Some (run_of (at_switch c e v d fs o server (before ++ ps) n))
switch_parts declared k c e v d fs o server before [] n h order = ap (λ l. Some (run_of (at_switch c e v d fs o server l n))) (sym (append-nil before))
switch_parts declared k c e v d fs o server before (p ∷ ps) n h order =
    let s = at_switch c e v d fs o server before n in
    let m = p.object in
    let x = h.0 in
    let begin = part_told (codes "switch ") (name_of declared m) (length p.rows) in
    let rest = parts_told (codes "switch ") declared ps ++ (codes "end" ∷ []) in
    let up : suc m ≡ m + 1 = omega arith in
    let found : shown_from n (drop n declared) begin ≡ Some (m, length p.rows) =
    ap (shown_from n (drop n declared)) (part_begun declared (codes "switch ") m (length p.rows) x.object x.is)
    ∙ shown_back declared n m x.object (length p.rows) k.all k.apart order.0 x.is x.kind (omega (arith, x.few)) in
    let one : step declared s begin ≡ part_opened OnSwitch m (length p.rows) s (slice_get declared m) = ap (shown_opened declared s) found in
    ap (λ l. step declared s begin >>= (λ t. resume declared t l)) (append_assoc (map row_told p.rows) (parts_told (codes "switch ") declared ps) (codes "end" ∷ []))
    ∙ ap (λ o. o >>= (λ t. resume declared t (map row_told p.rows ++ rest))) one
    ∙ opened_read declared s OnSwitch m x.object p.rows rest refl x.is (k.each m x.object x.is) x.rows x.rising
    ∙ switch_parts declared k c e v d fs o server (before ++ p ∷ []) ps (m + 1) h.1 (subst (λ j. AreInOrder j ps) up order.1)
    ∙ ap (λ l. Some (run_of (at_switch c e v d fs o server l n))) (append_assoc before (p ∷ []) ps)

-- ---- the whole

pub counts_small : (declared : List ObjectDecl) (run : Run) → InForm declared run → AreCounts (counts_in run)
counts_small declared run h = record { total = omega (arith, h.total); admitted = omega (arith, h.admitted); decided = omega (arith, h.decided); released = omega (arith, h.released) }

can_order : (order : List ℕ) (admitted decided : ℕ) → length order ≡ decided → AreBelow admitted order → (eqb decided 0 || ltb 0 admitted) ≡ true
can_order [] admitted decided many h = let e : decided ≡ 0 = omega (arith, many) in rw e refl
can_order (n ∷ ns) admitted decided many h = let less : 0 < admitted = omega (arith, h.0) in let t : ltb 0 admitted ≡ true = grind (arith, nat_tests) in rw t (or_true (eqb decided 0))

pub all_read : (declared : List ObjectDecl) → AreKnown declared → (run : Run) → InForm declared run → resume declared at_start (report_told declared run) ≡ Some run
all_read declared k run h =
    let c = counts_in run in
    let e = events_in run in
    let v = versions_in run in
    let d = run.drained in
    let hc = counts_small declared run h in
    let tail = parts_told (codes "object ") declared run.objects ++ (parts_told (codes "switch ") declared run.switch ++ (codes "end" ∷ [])) in
    head_read declared c e v d (fates_told 0 run.fates ++ (order_told run.order ∷ tail)) hc (can_order run.order (length run.fates) run.decided h.ordered h.order)
    (record { events = omega (arith, h.events); idle = omega (arith, h.idle) }) (record { version = omega (arith, h.version); visible = omega (arith, h.visible) })
    ∙ fates_read declared c e v d [] run.fates (order_told run.order ∷ tail) hc h.fates (omega arith)
    ∙ order_read declared c e v d run.fates run.order tail hc refl h.ordered h.order
    ∙ server_parts declared k c e v d run.fates run.order [] run.objects 0 (parts_told (codes "switch ") declared run.switch ++ (codes "end" ∷ [])) h.server h.numbers
    ∙ switch_parts declared k c e v d run.fates run.order run.objects [] run.switch 0 h.switch h.shown
