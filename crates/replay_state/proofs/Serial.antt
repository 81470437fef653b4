-- Serial runs over entries, with one put in the middle.
use Rattle.std.proofs.Common.{◌≡◌, ℕ, ◌≤◌, leb, List, [], ◌∷◌, ◌++◌, Option, Some, inl, inr, refl, ap, arith, map}
use Rattle.std.proofs.lemmas.Bool.{cases_lt, le-leb, lt-leb}
use Rattle.std.proofs.lemmas.List.Elements.{filter-append}
use Rattle.packet_fields.specs.declared.verdict.Verdict.{Verdict}
use Rattle.state_store.specs.Store.{Store}
use Rattle.run_model.specs.declared.serial.Decided.{Decided}
use Rattle.run_model.specs.Meaning.{Meaning, serial_store, serial_verdicts}
use Rattle.run_model.specs.Members.{Member}
use Rattle.replay_state.proofs.Words.{upto}
use Rattle.replay_state.proofs.Order.{upto_all}

abbrev pub numbers_of : List Decided → List ℕ
numbers_of es = map (λ e. e.number) es

-- the store and the verdicts that these entries leave by serial runs
abbrev pub left_by : Meaning → Store → List Decided → Store
left_by m s es = serial_store m s (numbers_of es)

abbrev pub said_by : Meaning → Store → List Decided → List (Option Verdict)
said_by m s es = map (λ y. Some y) (serial_verdicts m s (numbers_of es))

abbrev pub told_by : (ℕ → Option Verdict) → List Decided → List (Option Verdict)
told_by what es = map (λ e. what e.number) es

pub left_by_push : (m : Meaning) (s : Store) (l : List Decided) (e : Decided) → left_by m s (l ++ e ∷ []) ≡ m.after (left_by m s l) e.number
left_by_push m s [] e = refl
left_by_push m s (x ∷ l) e = left_by_push m (m.after s x.number) l e

pub left_by_mid : (m : Meaning) (s : Store) (l r : List Decided) (e : Decided) → m.after (left_by m s l) e.number ≡ left_by m s l → left_by m s (l ++ e ∷ r) ≡ left_by m s (l ++ r)
left_by_mid m s [] r e h = ap (λ b. left_by m b r) h
left_by_mid m s (x ∷ l) r e h = left_by_mid m (m.after s x.number) l r e h

pub said_by_mid : (m : Meaning) (what : ℕ → Option Verdict) (s : Store) (l r : List Decided) (e : Decided) → said_by m s (l ++ r) ≡ told_by what (l ++ r)
    → m.after (left_by m s l) e.number ≡ left_by m s l → Some (m.verdict (left_by m s l) e.number) ≡ what e.number → said_by m s (l ++ e ∷ r) ≡ told_by what (l ++ e ∷ r)
said_by_mid m what s [] r e all stays says =
    let rest = ap (λ b. said_by m b r) stays in cc
said_by_mid m what s (x ∷ l) r e all stays says =
    let b = m.after s x.number in
    let tail : said_by m b (l ++ r) ≡ told_by what (l ++ r) = cc in
    let rest : said_by m b (l ++ e ∷ r) ≡ told_by what (l ++ e ∷ r) = said_by_mid m what b l r e tail stays says in
    let head : Some (m.verdict s x.number) ≡ what x.number = cc in
    cc

pub said_by_push : (m : Meaning) (what : ℕ → Option Verdict) (s : Store) (l : List Decided) (e : Decided) → said_by m s l ≡ told_by what l
    → Some (m.verdict (left_by m s l) e.number) ≡ what e.number → said_by m s (l ++ e ∷ []) ≡ told_by what (l ++ e ∷ [])
said_by_push m what s [] e all says = ap (λ v. v ∷ []) says
said_by_push m what s (x ∷ l) e all says =
    let b = m.after s x.number in
    let tail : said_by m b l ≡ told_by what l = cc in
    let rest : said_by m b (l ++ e ∷ []) ≡ told_by what (l ++ e ∷ []) = said_by_push m what b l e tail says in
    let head : Some (m.verdict s x.number) ≡ what x.number = cc in
    cc

-- an entry that changes nothing, behind those of its version, changes no store that is left up to a version
pub upto_mid : (m : Meaning) (s : Store) (v : ℕ) (l r : List Decided) (e : Decided) → ((x : Decided) → Member x l → x.version ≤ e.version)
    → m.after (left_by m s l) e.number ≡ left_by m s l → left_by m s (upto v (l ++ e ∷ r)) ≡ left_by m s (upto v (l ++ r))
upto_mid m s v l r e early stays = elim (cases_lt v e.version) [
  | inl late ↦
      let one = filter-append (λ x. leb x.version v) l (e ∷ r) in
      let two = filter-append (λ x. leb x.version v) l r in
      let out = lt-leb e.version v late in
      rw (one, two, out) refl
  | inr kept ↦
      let one = filter-append (λ x. leb x.version v) l (e ∷ r) in
      let two = filter-append (λ x. leb x.version v) l r in
      let inside = le-leb e.version v kept in
      let whole = upto_all v l (λ x m. let h = early x m in omega arith) in
      rw (one, two, inside, whole) (left_by_mid m s l (upto v r) e stays)
]
