-- What was read is in the form, and prints as the lines that were read.
use Rattle.std.proofs.Common.{◌≡◌, ℕ, zero, suc, ◌+◌, ◌-◌, ◌^◌, ◌≤◌, ◌<◌, true, false, eqb, leb, List, [], ◌∷◌, ◌++◌, length, drop, map, Option, Some, None, refl, sym, ap, ◌∙◌, arith, append_assoc, length-append}
use Rattle.std.specs.Prelude.{codes, slice_get}
use Rattle.std.specs.List.{AllByRecursion}
use Rattle.std.specs.Ordering.{is_lt}
use Rattle.std.specs.declared.cmp.Ordering.{Ordering}
use Rattle.std.specs.declared.cmp.Ordering.TheVariants.{Less}
use Rattle.std.proofs.lemmas.List.{append-nil, map_push}
use Rattle.std.proofs.lemmas.Bool.Decides.{nat_tests}
use Rattle.state_store.specs.declared.object.ObjectDecl.{ObjectDecl}
use Rattle.state_store.specs.declared.object.Row.{Row}
use Rattle.state_store.specs.Kinds.{is_table}
use Rattle.state_store.specs.Store.{key_cmp}
use Rattle.run_model.specs.declared.fate.Fate.{Fate}
use Rattle.run_model.specs.declared.run.ObjectRows.{ObjectRows}
use Rattle.report_text.specs.declared.head.PacketCounts.{PacketCounts}
use Rattle.report_text.specs.declared.stage.Side.{Side}
use Rattle.report_text.specs.declared.stage.Side.TheVariants.{OnServer, OnSwitch}
use Rattle.report_text.specs.declared.stage.Stage.{Stage}
use Rattle.report_text.specs.declared.stage.Stage.TheVariants.{Title, Packets, Events, Version, Drained, Fates, Server, Switch, Table, Ended}
use Rattle.report_text.specs.Form.{AreInOrder, AreRising, IsFate, IsPart, IsRowOf, kept_from}
use Rattle.report_text.specs.Machine.{State, closed_by, has_keys, is_after, is_behind, keys_above, with_left}
use Rattle.report_text.proofs.HeadLines.{AreCounts, AreEvents, AreVersions, counts_text, events_text, versions_text}
use Rattle.report_text.proofs.FateLines.{fate_told}
use Rattle.report_text.proofs.PartLines.{AreBelow, order_told, part_told}
use Rattle.report_text.proofs.RowLines.{row_told}
use Rattle.report_text.proofs.Told.{fates_told, head_told, name_of, parts_told}
use Rattle.lemmas.proofs.Lists.{each_pushed, get_pushed}

-- ---- one more at the end

pub fates_more : (n : ℕ) (fs : List Fate) (f : Fate) → fates_told n (fs ++ f ∷ []) ≡ fates_told n fs ++ fate_told (n + length fs) f ∷ []
fates_more n [] f = let e : n ≡ n + 0 = omega arith in ap (λ m. fate_told m f ∷ []) e
fates_more n (g ∷ fs) f =
    let e : suc n + length fs ≡ n + suc (length fs) = omega arith in
    ap (λ l. fate_told n g ∷ l) (fates_more (suc n) fs f ∙ ap (λ m. fates_told (suc n) fs ++ fate_told m f ∷ []) e)

parts_more : (word : List ℕ) (declared : List ObjectDecl) (ps : List ObjectRows) (p : ObjectRows) → parts_told word declared (ps ++ p ∷ []) ≡ parts_told word declared ps ++ (part_told word (name_of declared p.object) (length p.rows) ∷ map row_told p.rows)
parts_more word declared [] p = ap (λ l. part_told word (name_of declared p.object) (length p.rows) ∷ l) (append-nil (map row_told p.rows))
parts_more word declared (q ∷ ps) p =
    ap (λ l. part_told word (name_of declared q.object) (length q.rows) ∷ l)
    (ap (λ l. map row_told q.rows ++ l) (parts_more word declared ps p)
    ∙ sym (append_assoc (map row_told q.rows) (parts_told word declared ps) (part_told word (name_of declared p.object) (length p.rows) ∷ map row_told p.rows)))

-- ---- rising rows

-- the last of these has a lower key
is_behind_by : (o : Ordering) → is_lt o ≡ true → o ≡ Less
is_behind_by Less h = refl
is_behind_by _ h = cc h

after_tail : (row x : Row) (xs : List Row) (key : List ℕ) → is_after (row ∷ (x ∷ xs)) key ≡ is_after (x ∷ xs) key
after_tail row x xs key =
    let e : length (row ∷ (x ∷ xs)) - 1 ≡ suc (length (x ∷ xs) - 1) = omega arith in
    ap (λ i. is_behind (slice_get (row ∷ (x ∷ xs)) i) key) e

below_more : (rows : List Row) (row next : Row) → is_after (row ∷ rows) next.keys ≡ true → AreRising (row ∷ rows) → AreRising ((row ∷ rows) ++ next ∷ [])
below_more [] row next h r = (is_behind_by (key_cmp row.keys next.keys) h, (tt, tt))
below_more (x ∷ xs) row next h r = (r.0, below_more xs x next (sym (after_tail row x xs next.keys) ∙ h) r.1)

pub rising_more : (rows : List Row) (next : Row) → is_after rows next.keys ≡ true → AreRising rows → AreRising (rows ++ next ∷ [])
rising_more [] next h r = (tt, tt)
rising_more (row ∷ rows) next h r = below_more rows row next h r

-- ---- parts in order

-- the numbers of their objects rise, from one on and up to another
abbrev pub AreWithin : ℕ → List ObjectRows → ℕ → Type 0
AreWithin low [] high = low ≤ high
AreWithin low (p ∷ ps) high = (low ≤ p.object) × AreWithin (suc p.object) ps high

within_more : (low : ℕ) (ps : List ObjectRows) (high : ℕ) (p : ObjectRows) → AreWithin low ps high → high ≤ p.object → AreWithin low (ps ++ p ∷ []) (p.object + 1)
within_more low [] high p h later = (omega arith, omega arith)
within_more low (q ∷ ps) high p h later = (h.0, within_more (suc q.object) ps high p h.1 later)

pub in_order : (low : ℕ) (ps : List ObjectRows) (high : ℕ) → AreWithin low ps high → AreInOrder low ps
in_order low [] high h = tt
in_order low (p ∷ ps) high h = (h.0, in_order (suc p.object) ps high h.1)

pub within_later : (low : ℕ) (ps : List ObjectRows) (high later : ℕ) → AreWithin low ps high → high ≤ later → AreWithin low ps later
within_later low [] high later h k = omega arith
within_later low (p ∷ ps) high later h k = (h.0, within_later (suc p.object) ps high later h.1 k)

-- ---- what holds at a stage

abbrev pub numbers_of : List ObjectRows → List ℕ
numbers_of ps = map (λ (p : ObjectRows). p.object) ps

-- nothing of the lines behind the first ones was read
pub record AreEmpty (fs : List Fate) (ps qs : List ObjectRows) (rs : List Row) : Type 0 where
  pub fates : fs ≡ []
  pub server : ps ≡ []
  pub switch : qs ≡ []
  pub rows : rs ≡ []

abbrev pub IsFresh : State → Type 0
IsFresh s = AreEmpty s.fates s.server s.switch s.rows

-- packets can be named on the order line, if any are to be
abbrev pub CanOrder : PacketCounts → Type 0
CanOrder c = 0 < c.decided → 0 < c.admitted

-- the lines up to the order line were read
pub record IsOrderRead (s : State) : Type 0 where
  pub counts : AreCounts s.counts
  pub events : AreEvents s.events
  pub versions : AreVersions s.versions
  pub fates : AllByRecursion IsFate s.fates
  pub admitted : length s.fates ≡ s.counts.admitted
  pub decided : length s.order ≡ s.counts.decided
  pub order : AreBelow s.counts.admitted s.order

-- and these parts were read
pub record HasParts (declared : List ObjectDecl) (s : State) : Type 0 where
  pub head : IsOrderRead (record s { server = []; switch = [] })
  pub server : AllByRecursion (IsPart declared) s.server
  pub switch : AllByRecursion (IsPart declared) s.switch

-- whatever is awaited
abbrev pub IsOrdered : List ObjectDecl → State → Type 0
IsOrdered declared s = HasParts declared (record s { rows = []; stage = Ended })

-- the rows of a part so far, of an object, where so many are to come
pub record IsPartly (declared : List ObjectDecl) (rows : List Row) (number left : ℕ) : Type 0 where
  pub object : ObjectDecl
  pub is : slice_get declared number ≡ Some object
  pub kind : is_table object.kind ≡ false
  pub few : length rows + left < 2 ^ 32
  pub fit : AllByRecursion (IsRowOf object) rows
  pub rising : AreRising rows

pub keys_suc : (n : ℕ) (ws : List ℕ) → has_keys (suc n) ws ≡ leb n (keys_above 0 ws [])
keys_suc n ws =
    let less : suc n - 1 ≡ n = omega arith in
    let some : eqb (suc n) 0 ≡ false = grind (arith, nat_tests) in
    rw (some, less) refl

-- the last of these rows leaves keys for so many behind the next one
abbrev pub HasRoom : ObjectDecl → ℕ → Option Row → Type 0
HasRoom object behind None = behind ≤ keys_above 0 object.keys []
HasRoom object behind (Some row) = suc behind ≤ keys_above 0 object.keys row.keys

abbrev pub last_of : List Row → Option Row
last_of rows = slice_get rows (length rows - 1)

pub last_more : (rows : List Row) (row : Row) → last_of (rows ++ row ∷ []) ≡ Some row
last_more rows row =
    let e : length (rows ++ row ∷ []) - 1 ≡ length rows = omega (arith, length-append rows (row ∷ [])) in
    ap (slice_get (rows ++ row ∷ [])) e ∙ get_pushed rows row

-- a part of object m may be read, behind these parts
abbrev pub MayFollow : List ObjectDecl → List ObjectRows → List ObjectRows → ℕ → Side → Type 0
MayFollow declared server switch m OnServer = (switch ≡ []) × (numbers_of server ++ (m ∷ kept_from (suc m) (drop (suc m) declared)) ≡ kept_from 0 declared)
MayFollow declared server switch m OnSwitch = (numbers_of server ≡ kept_from 0 declared) × AreWithin 0 switch m

abbrev pub Before : List ObjectDecl → State → ℕ → Side → Type 0
Before declared s m side = MayFollow declared s.server s.switch m side

-- the line of counts was read, and no packet
pub record IsHeadOf (c : PacketCounts) (Fresh : Type 0) : Type 0 where
  pub fresh : Fresh
  pub counts : AreCounts c
  pub can : CanOrder c

abbrev pub IsHead : State → Type 0
IsHead s = IsHeadOf s.counts (IsFresh s)

abbrev pub Stands : List ObjectDecl → State → Stage → Type 0
Stands declared s Events = IsHead s
Stands declared s Version = IsHead s × AreEvents s.events
Stands declared s Drained = IsHead s × AreEvents s.events × AreVersions s.versions
Stands declared s Fates =
    AreEmpty [] s.server s.switch s.rows × AreCounts s.counts × CanOrder s.counts × AreEvents s.events × AreVersions s.versions
    × AllByRecursion IsFate s.fates × (length s.fates ≤ s.counts.admitted)
Stands declared s (Server n) =
    IsOrdered declared s × (s.rows ≡ []) × (s.switch ≡ []) × (numbers_of s.server ++ kept_from n (drop n declared) ≡ kept_from 0 declared)
Stands declared s (Switch n) =
    IsOrdered declared s × (s.rows ≡ []) × (numbers_of s.server ≡ kept_from 0 declared) × AreWithin 0 s.switch n
Stands declared s (Table side m behind) =
    IsOrdered declared s × Before declared s m side × ((p : IsPartly declared s.rows m (suc behind)) × HasRoom p.object behind (last_of s.rows))
Stands declared s Ended =
    IsOrdered declared s × (numbers_of s.server ≡ kept_from 0 declared) × AreInOrder 0 s.switch
Stands declared s _ = IsFresh s

-- ---- the lines that were read

-- the lines up to the order line, and these
abbrev pub front : State → List (List ℕ) → List (List ℕ)
front s ls = head_told s.counts s.events s.versions s.drained ++ (fates_told 0 s.fates ++ (order_told s.order ∷ ls))

pub front_on : (s : State) (xs ys : List (List ℕ)) → front s (xs ++ ys) ≡ front s xs ++ ys
front_on s xs ys = simp append_assoc refl

abbrev pub word_of : Side → List ℕ
word_of OnServer = codes "object "
word_of OnSwitch = codes "switch "

abbrev pub base_of : List ObjectDecl → List ObjectRows → List ObjectRows → Side → List (List ℕ)
base_of declared server switch OnServer = parts_told (codes "object ") declared server
base_of declared server switch OnSwitch = parts_told (codes "object ") declared server ++ parts_told (codes "switch ") declared switch

abbrev pub base : List ObjectDecl → State → Side → List (List ℕ)
base declared s side = base_of declared s.server s.switch side

-- with a part that is to have so many rows
abbrev pub with_part : List ObjectDecl → State → Side → ℕ → ℕ → List (List ℕ)
with_part declared s side m total = front s (base declared s side ++ (part_told (word_of side) (name_of declared m) total ∷ map row_told s.rows))

abbrev pub told : List ObjectDecl → State → Stage → List (List ℕ)
told declared s Title = []
told declared s Packets = codes "report 1" ∷ []
told declared s Events = codes "report 1" ∷ (counts_text s.counts ∷ [])
told declared s Version = codes "report 1" ∷ (counts_text s.counts ∷ (events_text s.events ∷ []))
told declared s Drained = codes "report 1" ∷ (counts_text s.counts ∷ (events_text s.events ∷ (versions_text s.versions ∷ [])))
told declared s Fates = head_told s.counts s.events s.versions s.drained ++ fates_told 0 s.fates
told declared s (Server n) = front s (base declared s OnServer)
told declared s (Switch n) = front s (base declared s OnSwitch)
told declared s (Table side m behind) = with_part declared s side m (length s.rows + suc behind)
told declared s Ended = front s (base declared s OnSwitch ++ (codes "end" ∷ []))

pub record Goes (declared : List ObjectDecl) (lines : List (List ℕ)) (t : State) : Type 0 where
  pub stands : Stands declared t t.stage
  pub told : told declared t t.stage ≡ lines

-- ---- a part is closed, or its rows go on

abbrev part_of : State → ℕ → ObjectRows
part_of s m = record { object = m; rows = s.rows }

part_made : (declared : List ObjectDecl) (s : State) (m : ℕ) → IsPartly declared s.rows m 0 → IsPart declared (part_of s m)
part_made declared s m p = record { object = p.object; is = p.is; kind = p.kind; few = omega (arith, p.few); rows = p.fit; rising = p.rising }

closed_server : (declared : List ObjectDecl) (s : State) (m : ℕ) → IsOrdered declared s → IsPartly declared s.rows m 0 → Before declared s m OnServer
    → Goes declared (with_part declared s OnServer m (length s.rows + 0)) (closed_by OnServer (part_of s m) s)
closed_server declared s m o p b =
    let same : length s.rows + 0 ≡ length s.rows = omega arith in
    let next : m + 1 ≡ suc m = omega arith in
    record {
      stands = (
        record { head = o.head; server = each_pushed (IsPart declared) s.server (part_of s m) o.server (part_made declared s m p); switch = o.switch },
        refl,
        b.0,
        ap (λ l. l ++ kept_from (m + 1) (drop (m + 1) declared)) (map_push (λ (q : ObjectRows). q.object) s.server (part_of s m))
            ∙ append_assoc (numbers_of s.server) (m ∷ []) (kept_from (m + 1) (drop (m + 1) declared))
            ∙ ap (λ k. numbers_of s.server ++ (m ∷ kept_from k (drop k declared))) next ∙ b.1,
      );
      told = ap (front s) (parts_more (codes "object ") declared s.server (part_of s m))
          ∙ ap (λ k. front s (parts_told (codes "object ") declared s.server ++ (part_told (codes "object ") (name_of declared m) k ∷ map row_told s.rows))) (sym same);
    }

closed_switch : (declared : List ObjectDecl) (s : State) (m : ℕ) → IsOrdered declared s → IsPartly declared s.rows m 0 → Before declared s m OnSwitch
    → Goes declared (with_part declared s OnSwitch m (length s.rows + 0)) (closed_by OnSwitch (part_of s m) s)
closed_switch declared s m o p b =
    let same : length s.rows + 0 ≡ length s.rows = omega arith in
    let objects = parts_told (codes "object ") declared s.server in
    let shown = parts_told (codes "switch ") declared s.switch in
    record {
      stands = (
        record { head = o.head; server = o.server; switch = each_pushed (IsPart declared) s.switch (part_of s m) o.switch (part_made declared s m p) },
        refl,
        b.0,
        within_more 0 s.switch m (part_of s m) b.1 (omega arith),
      );
      told = ap (λ l. front s (objects ++ l)) (parts_more (codes "switch ") declared s.switch (part_of s m))
          ∙ ap (front s) (sym (append_assoc objects shown (part_told (codes "switch ") (name_of declared m) (length s.rows) ∷ map row_told s.rows)))
          ∙ ap (λ k. front s ((objects ++ shown) ++ (part_told (codes "switch ") (name_of declared m) k ∷ map row_told s.rows))) (sym same);
    }

abbrev pub IsLeft : ObjectDecl → State → ℕ → Type 0
IsLeft o s zero = Unit {0}
IsLeft o s (suc behind) = HasRoom o behind (last_of s.rows)

pub left_read : (declared : List ObjectDecl) (side : Side) (s : State) (m left : ℕ) → IsOrdered declared s → (p : IsPartly declared s.rows m left) → Before declared s m side → IsLeft p.object s left
    → Goes declared (with_part declared s side m (length s.rows + left)) (with_left side m left s)
left_read declared OnServer s m zero o p b h = closed_server declared s m o p b
left_read declared OnSwitch s m zero o p b h = closed_switch declared s m o p b
left_read declared side s m (suc behind) o p b h = record { stands = (o, b, (p, h)); told = refl }
