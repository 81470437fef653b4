-- One line more keeps what holds of what was read.
use Rattle.std.proofs.Common.{◌≡◌, ℕ, zero, suc, ◌+◌, ◌≤◌, ◌<◌, Bool, true, false, ◌&&◌, ◌||◌, cond, eqb, leb, ltb, List, [], ◌∷◌, ◌++◌, length, drop, map, Option, Some, None, refl, sym, ap, ◌∙◌, subst, arith, append_assoc, length-append}
use Rattle.std.specs.Prelude.{codes, slice_get}
use Rattle.std.specs.Str.{bytes_eq}
use Rattle.std.specs.List.{AllByRecursion}
use Rattle.std.proofs.lemmas.Bool.{and_parts, leb-true}
use Rattle.std.proofs.lemmas.List.{append-nil, map_push}
use Rattle.std.proofs.lemmas.Bool.Decides.{nat_tests}
use Rattle.std.proofs.lemmas.Option.{same_Some}
use Rattle.state_store.specs.declared.object.ObjectDecl.{ObjectDecl}
use Rattle.state_store.specs.declared.object.Row.{Row}
use Rattle.state_store.specs.Kinds.{is_table}
use Rattle.run_text.specs.Report.{name_in}
use Rattle.run_text.specs.Trace.{largest}
use Rattle.report_text.specs.declared.head.PacketCounts.{PacketCounts}
use Rattle.report_text.specs.declared.stage.Side.{Side}
use Rattle.report_text.specs.declared.stage.Side.TheVariants.{OnServer, OnSwitch}
use Rattle.report_text.specs.declared.stage.Stage.{Stage}
use Rattle.report_text.specs.declared.stage.Stage.TheVariants.{Title, Packets, Events, Version, Drained, Fates, Server, Switch, Table, Ended}
use Rattle.report_text.specs.Form.{AreRising, IsFate, IsPart, IsRowOf, kept_from}
use Rattle.report_text.specs.Parse.{counts_of, events_of, versions_of, fate_of, order_of, row_of, count_of}
use Rattle.report_text.specs.Machine.{State, counts_read, events_read, fate_read, has_keys, is_after, keys_above, next_from, order_read, part_opened, row_put, row_read, server_by, server_opened, shown_from, shown_opened, step_at, switch_read, then_put, title_read, versions_read, with_left}
use Rattle.report_text.proofs.HeadLines.{AreEvents, counts_is, counts_text, events_is, events_text, versions_is, versions_text}
use Rattle.report_text.proofs.FateLines.{fate_is, fate_told}
use Rattle.report_text.proofs.PartLines.{count_is, order_is, part_told}
use Rattle.report_text.proofs.RowLines.{row_is, row_told}
use Rattle.report_text.proofs.Told.{drained_text, fates_told, head_told, name_of, parts_told}
use Rattle.report_text.proofs.Declared.{AreKnown, IsNext, next_is, next_none, shown_is}
use Rattle.report_text.proofs.Sound.{AreWithin, Before, CanOrder, Goes, HasRoom, IsFresh, IsHead, IsLeft, IsOrdered, IsPartly, Stands, base, fates_more, front, front_on, in_order, keys_suc, last_more, last_of, left_read, numbers_of, rising_more, told, with_part, within_later, word_of}
use Rattle.lemmas.proofs.Lists.{bytes_eq_true, each_pushed}
use Rattle.lemmas.proofs.Tests.{some_of_cond as chosen}

then_is : {X : Type 0} (put : X → State) (o : Option X) (t : State) {P : Type 0} → then_put put o ≡ Some t → ((x : X) → o ≡ Some x → put x ≡ t → P) → P
then_is put None t h k = cc h
then_is put (Some x) t h k = k x refl (same_Some (put x) t h)

-- ---- the first lines

title_goes : (declared : List ObjectDecl) (s t : State) (l : List ℕ) → IsFresh s → title_read s l ≡ Some t → Goes declared (l ∷ []) t
title_goes declared s t l f h =
    chosen (bytes_eq l (codes "report 1")) t (Some (record s { stage = Packets })) h (λ same e.
    subst (Goes declared (l ∷ [])) (same_Some (record s { stage = Packets }) t e) (record {
      stands = f;
      told = ap (λ x. x ∷ []) (sym (bytes_eq_true l (codes "report 1") same));
    }))

can_order : (c : PacketCounts) → (eqb c.decided 0 || ltb 0 c.admitted) ≡ true → CanOrder c
can_order c h some = grind (arith, nat_tests, h, some)

counts_goes : (declared : List ObjectDecl) (o : Option PacketCounts) (s t : State) (l : List ℕ) → IsFresh s → counts_of l ≡ o → counts_read s o ≡ Some t
    → Goes declared (codes "report 1" ∷ (l ∷ [])) t
counts_goes declared None s t l f e h = cc h
counts_goes declared (Some c) s t l f e h =
    chosen (eqb c.decided 0 || ltb 0 c.admitted) t (Some (record s { counts = c; stage = Events })) h (λ can k.
    let r = counts_is l c e in
    subst (Goes declared (codes "report 1" ∷ (l ∷ []))) (same_Some (record s { counts = c; stage = Events }) t k) (record {
      stands = record { fresh = f; counts = r.are; can = can_order c can };
      told = ap (λ x. codes "report 1" ∷ (x ∷ [])) (sym r.is);
    }))

events_goes : (declared : List ObjectDecl) (s t : State) (l : List ℕ) → IsHead s → events_read s (events_of l) ≡ Some t
    → Goes declared (codes "report 1" ∷ (counts_text s.counts ∷ (l ∷ []))) t
events_goes declared s t l f h =
    then_is (λ e. record s { events = e; stage = Version }) (events_of l) t h (λ x e k.
    let r = events_is l x e in
    subst (Goes declared (codes "report 1" ∷ (counts_text s.counts ∷ (l ∷ [])))) k (record {
      stands = (f, r.are);
      told = ap (λ y. codes "report 1" ∷ (counts_text s.counts ∷ (y ∷ []))) (sym r.is);
    }))

versions_goes : (declared : List ObjectDecl) (s t : State) (l : List ℕ) → IsHead s → AreEvents s.events → versions_read s (versions_of l) ≡ Some t
    → Goes declared (codes "report 1" ∷ (counts_text s.counts ∷ (events_text s.events ∷ (l ∷ [])))) t
versions_goes declared s t l f g h =
    then_is (λ e. record s { versions = e; stage = Drained }) (versions_of l) t h (λ x e k.
    let r = versions_is l x e in
    subst (Goes declared (codes "report 1" ∷ (counts_text s.counts ∷ (events_text s.events ∷ (l ∷ []))))) k (record {
      stands = (f, g, r.are);
      told = ap (λ y. codes "report 1" ∷ (counts_text s.counts ∷ (events_text s.events ∷ (y ∷ [])))) (sym r.is);
    }))

drained_to : (declared : List ObjectDecl) (s : State) (d : Bool) (l : List ℕ) → Stands declared s Drained → l ≡ drained_text d
    → Goes declared (codes "report 1" ∷ (counts_text s.counts ∷ (events_text s.events ∷ (versions_text s.versions ∷ (l ∷ []))))) (record s { drained = d; stage = Fates })
drained_to declared s d l f e =
    let head = codes "report 1" ∷ (counts_text s.counts ∷ (events_text s.events ∷ (versions_text s.versions ∷ (drained_text d ∷ [])))) in
    let none : AllByRecursion IsFate s.fates = subst (AllByRecursion IsFate) (sym f.0.fresh.fates) tt in
    let few : length s.fates ≤ s.counts.admitted = rw f.0.fresh.fates (omega arith) in
    record {
      stands = (record { fates = refl; server = f.0.fresh.server; switch = f.0.fresh.switch; rows = f.0.fresh.rows }, f.0.counts, f.0.can, f.1, f.2, none, few);
      told = ap (λ fs. head ++ fates_told 0 fs) f.0.fresh.fates ∙ ap (λ y. codes "report 1" ∷ (counts_text s.counts ∷ (events_text s.events ∷ (versions_text s.versions ∷ (y ∷ []))))) (sym e);
    }

drained_by : (declared : List ObjectDecl) (a b : Bool) (s t : State) (l : List ℕ) → Stands declared s Drained → bytes_eq l (codes "drained yes") ≡ a → bytes_eq l (codes "drained no") ≡ b
    → cond a (Some (record s { drained = true; stage = Fates })) (cond b (Some (record s { drained = false; stage = Fates })) None) ≡ Some t
    → Goes declared (codes "report 1" ∷ (counts_text s.counts ∷ (events_text s.events ∷ (versions_text s.versions ∷ (l ∷ []))))) t
drained_by declared true b s t l f ea eb h =
    subst (Goes declared (codes "report 1" ∷ (counts_text s.counts ∷ (events_text s.events ∷ (versions_text s.versions ∷ (l ∷ [])))))) (same_Some _ t h) (drained_to declared s true l f (bytes_eq_true l (codes "drained yes") ea))
drained_by declared false true s t l f ea eb h =
    subst (Goes declared (codes "report 1" ∷ (counts_text s.counts ∷ (events_text s.events ∷ (versions_text s.versions ∷ (l ∷ [])))))) (same_Some _ t h) (drained_to declared s false l f (bytes_eq_true l (codes "drained no") eb))
drained_by declared false false s t l f ea eb h = cc h

-- ---- packets and the order

fate_goes : (declared : List ObjectDecl) (s t : State) (l : List ℕ) → s.stage ≡ Fates → Stands declared s Fates → length s.fates < s.counts.admitted
    → fate_read s (fate_of (length s.fates) l) ≡ Some t → Goes declared (told declared s Fates ++ l ∷ []) t
fate_goes declared s t l st f less h =
    let head = head_told s.counts s.events s.versions s.drained in
    then_is (λ x. record s { fates = s.fates ++ x ∷ [] }) (fate_of (length s.fates) l) t h (λ x e k.
    let r = fate_is (length s.fates) l x e in
    let u = record s { fates = s.fates ++ x ∷ [] } in
    let start : 0 + length s.fates ≡ length s.fates = omega arith in
    let long : length (s.fates ++ x ∷ []) ≤ s.counts.admitted = omega (arith, less, length-append s.fates (x ∷ [])) in
    let stands : Stands declared u Fates =
    (f.0, f.1, f.2, f.3, f.4, each_pushed IsFate s.fates x f.5 r.are, long) in
    let is : told declared u Fates ≡ told declared s Fates ++ l ∷ [] =
    ap (λ m. head ++ m) (fates_more 0 s.fates x) ∙ ap (λ n. head ++ (fates_told 0 s.fates ++ fate_told n x ∷ [])) start ∙ ap (λ y. head ++ (fates_told 0 s.fates ++ y ∷ [])) (sym r.is) ∙ sym (append_assoc head (fates_told 0 s.fates) (l ∷ [])) in
    subst (Goes declared (told declared s Fates ++ l ∷ [])) k (record {
      stands = subst (Stands declared u) (sym st) stands;
      told = ap (told declared u) st ∙ is;
    }))

order_goes : (declared : List ObjectDecl) (s t : State) (l : List ℕ) → Stands declared s Fates → s.counts.admitted ≤ length s.fates
    → order_read s (order_of s.counts.decided s.counts.admitted l) ≡ Some t → Goes declared (told declared s Fates ++ l ∷ []) t
order_goes declared s t l f many h =
    let head = head_told s.counts s.events s.versions s.drained in
    then_is (λ x. record s { order = x; stage = Server 0 }) (order_of s.counts.decided s.counts.admitted l) t h (λ x e k.
    let r = order_is s.counts.decided s.counts.admitted l x e in
    let u = record s { order = x; stage = Server 0 } in
    let all : length s.fates ≡ s.counts.admitted = omega (arith, many, f.6) in
    subst (Goes declared (told declared s Fates ++ l ∷ [])) k (record {
      stands = (
        record {
          head = record { counts = f.1; events = f.3; versions = f.4; fates = f.5; admitted = all; decided = r.are.0; order = r.are.1 };
          server = subst (AllByRecursion (IsPart declared)) (sym f.0.server) tt;
          switch = subst (AllByRecursion (IsPart declared)) (sym f.0.switch) tt;
        },
        f.0.rows,
        f.0.switch,
        ap (λ ps. numbers_of ps ++ kept_from 0 declared) f.0.server,
      );
      told = ap (λ ps. front u (parts_told (codes "object ") declared ps)) f.0.server
          ∙ ap (λ y. head ++ (fates_told 0 s.fates ++ (y ∷ []))) (sym r.is) ∙ sym (append_assoc head (fates_told 0 s.fates) (l ∷ []));
    }))

packet_by : (declared : List ObjectDecl) (b : Bool) (s t : State) (l : List ℕ) → s.stage ≡ Fates → Stands declared s Fates → ltb (length s.fates) s.counts.admitted ≡ b
    → cond b (fate_read s (fate_of (length s.fates) l)) (order_read s (order_of s.counts.decided s.counts.admitted l)) ≡ Some t → Goes declared (told declared s Fates ++ l ∷ []) t
packet_by declared true s t l st f e h = fate_goes declared s t l st f (grind (arith, nat_tests)) h
packet_by declared false s t l st f e h = order_goes declared s t l f (grind (arith, nat_tests)) h

-- ---- parts

named : (declared : List ObjectDecl) (m : ℕ) (o : ObjectDecl) → slice_get declared m ≡ Some o → name_of declared m ≡ o.name
named declared m o e = ap name_in e

has_room : (o : ObjectDecl) (s : State) (count : ℕ) → s.rows ≡ [] → has_keys count o.keys ≡ true → IsLeft o s count
has_room o s zero r h = tt
has_room o s (suc behind) r h =
    let room : behind ≤ keys_above 0 o.keys [] = leb-true behind (keys_above 0 o.keys []) (sym (keys_suc behind o.keys) ∙ h) in
    subst (λ rows. HasRoom o behind (last_of rows)) (sym r) room

open_goes : (declared : List ObjectDecl) (side : Side) (s t : State) (m count : ℕ) (o : ObjectDecl) (l : List ℕ) → IsOrdered declared s → s.rows ≡ [] → Before declared s m side
    → slice_get declared m ≡ Some o → is_table o.kind ≡ false → count ≤ largest → l ≡ part_told (word_of side) o.name count
    → part_opened side m count s (Some o) ≡ Some t → Goes declared (front s (base declared s side) ++ l ∷ []) t
open_goes declared side s t m count o l f r b is kind small line h =
    chosen (has_keys count o.keys) t (Some (with_left side m count s)) h (λ keys k.
    let none : length s.rows ≡ 0 = ap length r in
    let read : IsPartly declared s.rows m count = record {
      object = o;
      is = is;
      kind = kind;
      few = omega (arith, none, small);
      fit = subst (AllByRecursion (IsRowOf o)) (sym r) tt;
      rising = subst AreRising (sym r) tt;
    } in
    let g = left_read declared side s m count f read b (has_room o s count r keys) in
    let total : length s.rows + count ≡ count = omega (arith, none) in
    let lines : with_part declared s side m (length s.rows + count) ≡ front s (base declared s side) ++ l ∷ [] =
    ap (λ n. front s (base declared s side ++ (part_told (word_of side) (name_of declared m) n ∷ map row_told s.rows))) total
    ∙ ap (λ rows. front s (base declared s side ++ (part_told (word_of side) (name_of declared m) count ∷ map row_told rows))) r
    ∙ ap (λ name. front s (base declared s side ++ (part_told (word_of side) name count ∷ []))) (named declared m o is)
    ∙ ap (λ y. front s (base declared s side ++ (y ∷ []))) (sym line)
    ∙ front_on s (base declared s side) (l ∷ []) in
    subst (Goes declared (front s (base declared s side) ++ l ∷ [])) (same_Some (with_left side m count s) t k) (subst (λ ls. Goes declared ls (with_left side m count s)) lines g))

end_goes : (declared : List ObjectDecl) (s t : State) (l : List ℕ) (n : ℕ) → Stands declared s (Switch n) → l ≡ codes "end" → Some (record s { stage = Ended }) ≡ Some t
    → Goes declared (front s (base declared s OnSwitch) ++ l ∷ []) t
end_goes declared s t l n f e h =
    subst (Goes declared (front s (base declared s OnSwitch) ++ l ∷ [])) (same_Some (record s { stage = Ended }) t h) (record {
      stands = (f.0, f.2, in_order 0 s.switch n f.3);
      told = ap (λ y. front s (base declared s OnSwitch ++ (y ∷ []))) (sym e) ∙ front_on s (base declared s OnSwitch) (l ∷ []);
    })

shown_goes : (declared : List ObjectDecl) (o : Option (ℕ × ℕ)) (s t : State) (l : List ℕ) (n : ℕ) → Stands declared s (Switch n) → shown_from n (drop n declared) l ≡ o → shown_opened declared s o ≡ Some t
    → Goes declared (front s (base declared s OnSwitch) ++ l ∷ []) t
shown_goes declared None s t l n f e h = cc h
shown_goes declared (Some x) s t l n f e h =
    let y = shown_is n (drop n declared) declared l x refl e in
    let opened : part_opened OnSwitch x.0 x.1 s (Some y.object) ≡ Some t = rw y.is at h in
    open_goes declared OnSwitch s t x.0 x.1 y.object l f.0 f.1 (f.2, within_later 0 s.switch n x.0 f.3 y.later) y.is y.kind y.line.are y.line.is opened

switch_by : (declared : List ObjectDecl) (b : Bool) (s t : State) (l : List ℕ) (n : ℕ) → Stands declared s (Switch n) → bytes_eq l (codes "end") ≡ b
    → cond b (Some (record s { stage = Ended })) (shown_opened declared s (shown_from n (drop n declared) l)) ≡ Some t → Goes declared (front s (base declared s OnSwitch) ++ l ∷ []) t
switch_by declared true s t l n f e h = end_goes declared s t l n f (bytes_eq_true l (codes "end") e) h
switch_by declared false s t l n f e h = shown_goes declared (shown_from n (drop n declared) l) s t l n f refl h

switch_goes : (declared : List ObjectDecl) (s t : State) (l : List ℕ) (n : ℕ) → Stands declared s (Switch n) → switch_read declared s n l ≡ Some t → Goes declared (front s (base declared s OnSwitch) ++ l ∷ []) t
switch_goes declared s t l n f h = switch_by declared (bytes_eq l (codes "end")) s t l n f refl h

server_count : (declared : List ObjectDecl) (c : Option ℕ) (s t : State) (l : List ℕ) (n m : ℕ) (x : IsNext n (drop n declared) declared m) → Stands declared s (Server n)
    → count_of (codes "object ") x.object.name l ≡ c → server_opened declared s m c ≡ Some t → Goes declared (front s (base declared s OnServer) ++ l ∷ []) t
server_count declared None s t l n m x f e h = cc h
server_count declared (Some count) s t l n m x f e h =
    let y = count_is (codes "object ") x.object.name l count e in
    let opened : part_opened OnServer m count s (Some x.object) ≡ Some t = rw x.is at h in
    open_goes declared OnServer s t m count x.object l f.0 f.1 (f.2, ap (λ ks. numbers_of s.server ++ ks) (sym x.kept) ∙ f.3) x.is x.kind y.are y.is opened

server_next : (declared : List ObjectDecl) (o : Option ℕ) (s t : State) (l : List ℕ) (n : ℕ) → Stands declared s (Server n) → next_from n (drop n declared) ≡ o → server_by declared s l o ≡ Some t
    → Goes declared (front s (base declared s OnServer) ++ l ∷ []) t
server_next declared None s t l n f e h =
    let all : numbers_of s.server ≡ kept_from 0 declared =
    sym (append-nil (numbers_of s.server)) ∙ ap (λ ks. numbers_of s.server ++ ks) (sym (next_none n (drop n declared) e)) ∙ f.3 in
    let objects = parts_told (codes "object ") declared s.server in
    let same : base declared s OnSwitch ≡ base declared s OnServer = ap (λ ps. objects ++ parts_told (codes "switch ") declared ps) f.2 ∙ append-nil objects in
    let stands : Stands declared s (Switch 0) = (f.0, f.1, all, subst (λ ps. AreWithin 0 ps 0) (sym f.2) (omega arith)) in
    subst (λ b. Goes declared (front s b ++ l ∷ []) t) same (switch_goes declared s t l 0 stands h)
server_next declared (Some m) s t l n f e h =
    let x = next_is n (drop n declared) declared m refl e in
    let counted : server_opened declared s m (count_of (codes "object ") x.object.name l) ≡ Some t = rw x.is at h in
    server_count declared (count_of (codes "object ") x.object.name l) s t l n m x f refl counted

-- ---- rows

goes_on : (o : ObjectDecl) (u : State) (behind : ℕ) (row : Row) → last_of u.rows ≡ Some row → behind ≤ keys_above 0 o.keys row.keys → IsLeft o u behind
goes_on o u zero row e h = tt
goes_on o u (suc behind) row e h = subst (HasRoom o behind) (sym e) h

row_goes : (declared : List ObjectDecl) (k : AreKnown declared) (side : Side) (s t : State) (l : List ℕ) (m behind : ℕ) (p : IsPartly declared s.rows m (suc behind)) (row : Row) → IsOrdered declared s → Before declared s m side
    → row_of p.object.keys p.object.values l ≡ Some row → row_put side m behind s p.object (Some row) ≡ Some t
    → Goes declared (with_part declared s side m (length s.rows + suc behind) ++ l ∷ []) t
row_goes declared k side s t l m behind p row f b e h =
    chosen (is_after s.rows row.keys && leb behind (keys_above 0 p.object.keys row.keys)) t (Some (with_left side m behind (record s { rows = s.rows ++ row ∷ [] }))) h (λ ok q.
    let both = and_parts (is_after s.rows row.keys) (leb behind (keys_above 0 p.object.keys row.keys)) ok in
    let o = p.object in
    let facts = k.each m o p.is in
    let r = row_is o.keys o.values l row facts.keys facts.values e in
    let u = record s { rows = s.rows ++ row ∷ [] } in
    let long = length-append s.rows (row ∷ []) in
    let read : IsPartly declared u.rows m behind = record {
      object = o;
      is = p.is;
      kind = p.kind;
      few = omega (arith, long, p.few);
      fit = each_pushed (IsRowOf o) s.rows row p.fit (r.keys, r.values);
      rising = rising_more s.rows row both.0 p.rising;
    } in
    let g = left_read declared side u m behind f read b (goes_on o u behind row (last_more s.rows row) (leb-true behind (keys_above 0 o.keys row.keys) both.1)) in
    let total : length (s.rows ++ row ∷ []) + behind ≡ length s.rows + suc behind = omega (arith, long) in
    let begin = part_told (word_of side) (name_of declared m) (length s.rows + suc behind) in
    let lines : with_part declared u side m (length (s.rows ++ row ∷ []) + behind) ≡ with_part declared s side m (length s.rows + suc behind) ++ l ∷ [] =
    ap (λ n. with_part declared u side m n) total
    ∙ ap (λ ls. front s (base declared s side ++ (begin ∷ ls))) (map_push row_told s.rows row)
    ∙ ap (λ y. front s (base declared s side ++ (begin ∷ (map row_told s.rows ++ y ∷ [])))) (sym r.is)
    ∙ ap (front s) (sym (append_assoc (base declared s side) (begin ∷ map row_told s.rows) (l ∷ [])))
    ∙ front_on s (base declared s side ++ (begin ∷ map row_told s.rows)) (l ∷ []) in
    subst (Goes declared (with_part declared s side m (length s.rows + suc behind) ++ l ∷ [])) (same_Some (with_left side m behind u) t q) (subst (λ ls. Goes declared ls (with_left side m behind u)) lines g))

row_put_by : (declared : List ObjectDecl) (k : AreKnown declared) (side : Side) (r : Option Row) (s t : State) (l : List ℕ) (m behind : ℕ) (p : IsPartly declared s.rows m (suc behind)) → IsOrdered declared s → Before declared s m side
    → row_of p.object.keys p.object.values l ≡ r → row_put side m behind s p.object r ≡ Some t
    → Goes declared (with_part declared s side m (length s.rows + suc behind) ++ l ∷ []) t
row_put_by declared k side None s t l m behind p f b e h = cc h
row_put_by declared k side (Some row) s t l m behind p f b e h = row_goes declared k side s t l m behind p row f b e h

table_goes : (declared : List ObjectDecl) (k : AreKnown declared) (side : Side) (s t : State) (l : List ℕ) (m behind : ℕ) → Stands declared s (Table side m behind) → row_read side m behind s l (slice_get declared m) ≡ Some t
    → Goes declared (with_part declared s side m (length s.rows + suc behind) ++ l ∷ []) t
table_goes declared k side s t l m behind f h =
    let p = f.2.0 in
    let put : row_put side m behind s p.object (row_of p.object.keys p.object.values l) ≡ Some t = rw p.is at h in
    row_put_by declared k side (row_of p.object.keys p.object.values l) s t l m behind p f.0 f.1 refl put

-- ---- every line

pub step_goes : (declared : List ObjectDecl) (k : AreKnown declared) (st : Stage) (s t : State) (l : List ℕ) → s.stage ≡ st → Stands declared s st → step_at declared s l st ≡ Some t → Goes declared (told declared s st ++ l ∷ []) t
step_goes declared k Title s t l e f h = title_goes declared s t l f h
step_goes declared k Packets s t l e f h = counts_goes declared (counts_of l) s t l f refl h
step_goes declared k Events s t l e f h = events_goes declared s t l f h
step_goes declared k Version s t l e f h = versions_goes declared s t l f.0 f.1 h
step_goes declared k Drained s t l e f h = drained_by declared (bytes_eq l (codes "drained yes")) (bytes_eq l (codes "drained no")) s t l f refl refl h
step_goes declared k Fates s t l e f h = packet_by declared (ltb (length s.fates) s.counts.admitted) s t l e f refl h
step_goes declared k (Server n) s t l e f h = server_next declared (next_from n (drop n declared)) s t l n f refl h
step_goes declared k (Switch n) s t l e f h = switch_goes declared s t l n f h
step_goes declared k (Table side m behind) s t l e f h = table_goes declared k side s t l m behind f h
step_goes declared k Ended s t l e f h = cc h
