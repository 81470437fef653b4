-- A flat program means what its middlebox means.
use Rattle.std.proofs.Common.{◌≡◌, ℕ, zero, suc, ◌-◌, ◌<◌, ◌^◌, ◌%◌, ◌==◌, true, false, List, [], ◌∷◌, map, length, replicate, get_or, Option, None, refl, sym, ap, ◌∙◌, subst, arith, slice_index, if◌then◌else◌, ⊎_elim}
use Rattle.std.proofs.Math.Nat.{mod-eq_of_lt}
use Rattle.std.proofs.lemmas.Bool.{cases_Bool}
use Rattle.std.proofs.lemmas.List.{get_or-map, length-map, length-replicate}
use Rattle.packet_fields.specs.declared.field.Field.{Field}
use Rattle.packet_fields.specs.declared.field.Field.TheVariants.{MetaPort}
use Rattle.packet_fields.specs.declared.packet.Packet.{Packet}
use Rattle.packet_fields.specs.declared.verdict.Verdict.TheVariants.{Drop, Send}
use Rattle.packet_fields.specs.Table.{row, all_fields, field_index}
use Rattle.packet_fields.specs.Fields.{field_value}
use Rattle.state_store.specs.Kept.{IsKept}
use Rattle.state_store.specs.Store.{Store}
use Rattle.element_lang.specs.Tree.{Tree}
use Rattle.element_lang.specs.Rules.{is_good}
use Rattle.element_lang.specs.Meaning.{Outcome, Running, Ended, start_state, store_after, verdict_after, source_run, source_store, source_verdict}
use Rattle.flat_ir.specs.declared.program.ValueId.{ValueId}
use Rattle.packet_fields.specs.Arrivals.{IsArrival}
use Rattle.flat_ir.specs.Program as flat
use Rattle.flat_ir.specs.Program.{Program}
use Rattle.flat_ir.specs.Blocks.{Reading}
use Rattle.flat_ir.specs.Run.{with_writes, verdict, flat_store, flat_verdict}
use Rattle.flatten.specs.Flatten.{arrived, start_view, end_of, flat_of, field_widths, all_changed}
use Rattle.flatten.specs.Occurs.{is_in_body}
use Rattle.packet_fields.specs.FieldOrder.{at_index, index-lt, length-all_fields}
use Rattle.element_lang.specs.KeptRuns.{start_fits}
use Rattle.flatten.proofs.FormedPieces.{Ready}
use Rattle.flatten.proofs.FormedWhole.{base, came, came_still, occurs, shown, made, means, well_formed}
use Rattle.flatten.proofs.Meanings.{Run, val, store_at, nought_is, Going, Leaves, Stands}
use Rattle.flatten.proofs.Views.{AllHave, Meets, Agree, HasId, IsThere, have_none}
use Rattle.flatten.proofs.Written.{IsPlace, HasPlaces, all_counted, written_all}

-- ## Places of fields

came_at : (g : Field → ℕ) (f : Field) → slice_index (map g all_fields) (field_index f) ≡ g f
came_at g f =
    let within : field_index f < length all_fields = omega (arith, index-lt f, length-all_fields) in
    get_or-map g all_fields (field_index f) MetaPort 0 within ∙ ap g (at_index f)

meets_index : (f : ValueId → ℕ) (ids : List (Option ValueId)) (us : List ℕ) (x : ℕ) → Agree f ids us → Meets f (get_or ids x None) (slice_index us x)
meets_index f [] [] x a = tt
meets_index f (i ∷ ids) (u ∷ us) zero a = a.0
meets_index f (i ∷ ids) (u ∷ us) (suc x) a = meets_index f ids us x a.1
meets_index f _ _ x a = absurd a

there_has : (P : ℕ → ValueId → Type 0) (ws : List ℕ) (ids : List (Option ValueId)) (x : ℕ) → AllHave P ws ids → x < length ws → IsThere ids x → HasId (get_or ids x None)
there_has P (w ∷ ws) (i ∷ ids) zero r lt h = h
there_has P (w ∷ ws) (i ∷ ids) (suc x) r lt h = there_has P ws ids x r.1 (omega (arith, lt)) h
there_has P [] ids x r lt h = absurd (omega (arith, lt))
there_has P (w ∷ ws) [] x r lt h = absurd r

within_fields : (f : Field) → field_index f < length field_widths
within_fields f = omega (arith, index-lt f, length-all_fields, length-map all_fields (λ (f : Field). (row f).width))

-- ## Verdicts

is_drop : (F : Program) (packet : Packet) (reads : Reading) → reads F.send ≡ 0 → verdict F packet reads ≡ Drop
is_drop F packet reads e = ap (λ n. if n == 0 then Drop else Send (reads F.port % 2 ^ 8) (with_writes F.fields reads packet.bytes)) e

is_sent : (F : Program) (packet : Packet) (reads : Reading) (by : ℕ) (now : List ℕ) → reads F.send ≡ 1 → reads F.port ≡ by → by < 2 ^ 8 → with_writes F.fields reads packet.bytes ≡ now → verdict F packet reads ≡ Send by now
is_sent F packet reads by now e port small writes =
    ap (λ n. if n == 0 then Drop else Send (reads F.port % 2 ^ 8) (with_writes F.fields reads packet.bytes)) e
    ∙ ap (λ n. Send (n % 2 ^ 8) (with_writes F.fields reads packet.bytes)) port
    ∙ ap (λ n. Send n (with_writes F.fields reads packet.bytes)) (mod-eq_of_lt small)
    ∙ ap (Send by) writes

-- ## The whole

module _ (m : Tree) (st : Store) (packet : Packet) (good : is_good m ≡ true) (kept : IsKept m.objects st) (arrives : IsArrival packet) where
  abbrev F : Program
  F = flat_of m

  abbrev c : Run F
  c = record { store = st; packet = packet; arrives = arrives; well = well_formed m good }

  abbrev reads : ValueId → ℕ
  reads = val F c

  abbrev first : Field → ℕ
  first = field_value packet.bytes packet.port

  starts : Going F c (base m good) m (occurs m good) (store_at F c (arrived m).given) (start_view m) (start_state m st packet)
  starts = record {
    fits = start_fits m st packet arrives kept;
    locals = have_none (λ u v. reads v ≡ u) (replicate (length m.locals) 0) (length m.locals) (length-replicate (length m.locals) 0);
    fields = (came m good).meets c;
    still = λ f e. came_at first f;
    ended = nought_is F c (base m good);
    send = nought_is F c (base m good);
    store = came_still m good c;
  }

  ends : Stands F c (base m good) m (occurs m good) (store_at F c (end_of m).given) (end_of m).view (source_run m st packet)
  ends = (means m good c).alive refl (Running (start_state m st packet)) starts

  -- each field, as it came and as it leaves
  field_place : (values : List ℕ) → Agree reads (end_of m).view.fields values → ((f : Field) → is_in_body f m.body ≡ false → slice_index values (field_index f) ≡ first f)
      → (f : Field) → IsPlace packet.port reads first f (get_or (arrived m).ids (field_index f) None) (get_or (end_of m).view.fields (field_index f) None) (slice_index values (field_index f))
  field_place values now still f =
      let x = field_index f in
      record {
        came = subst (Meets reads (get_or (arrived m).ids x None)) (came_at first f) (meets_index reads (arrived m).ids (map first all_fields) x ((came m good).meets c));
        now = meets_index reads (end_of m).view.fields values x now;
        fixed = (made m good).keeps.fixed f;
        still = λ apart.
            ⊎_elim
            (λ yes_it.
            let there = shown m good f yes_it in
            absurd (apart (there_has (Ready F 0 (length (arrived m).given.code)) field_widths (arrived m).ids x (came m good).ready (within_fields f) there)
            (there_has (Ready F 0 (length (end_of m).given.code)) field_widths (end_of m).view.fields x (made m good).holds.fields (within_fields f) ((made m good).keeps.fields x there))))
            (λ not_it. still f not_it)
            (cases_Bool (is_in_body f m.body));
      }

  writes_told : (by : ℕ) (now : List ℕ) → Leaves F c (base m good) m (occurs m good) (end_of m).view.fields (end_of m).view.send (end_of m).view.port by now
      → with_writes (all_changed all_fields (arrived m).ids (end_of m).view.fields) reads packet.bytes ≡ now
  writes_told by now z =
      let places : HasPlaces packet.port reads first 0 (arrived m).ids (end_of m).view.fields z.values = λ f le.
      let none : field_index f ≡ field_index f - 0 = omega arith in
      subst (λ n. IsPlace packet.port reads first f (get_or (arrived m).ids n None) (get_or (end_of m).view.fields n None) (slice_index z.values (field_index f))) none (field_place z.values z.agree z.still f) in
      written_all packet.port reads first (Ready F 0 (length (arrived m).given.code)) (Ready F 0 (length (end_of m).given.code)) all_fields 0 (arrived m).ids (end_of m).view.fields z.values packet.bytes all_counted (came m good).ready (made m good).holds.fields places arrives.bytes (λ f le. refl) ∙ sym z.bytes

  store_told : (o : Outcome) → Stands F c (base m good) m (occurs m good) (store_at F c (end_of m).given) (end_of m).view o → flat_store F st packet ≡ store_after o
  store_told (Running s) z = z.store
  store_told (Ended t verdict) z = z.store

  verdict_told : (o : Outcome) → Stands F c (base m good) m (occurs m good) (store_at F c (end_of m).given) (end_of m).view o → flat_verdict F st packet ≡ verdict_after o
  verdict_told (Running s) z = is_drop F packet reads z.send
  verdict_told (Ended t Drop) z = is_drop F packet reads z.does
  verdict_told (Ended t (Send by now)) z = is_sent F packet reads by now z.does.sent z.does.out z.does.small (writes_told by now z.does)

  pub same_store : flat_store (flat_of m) st packet ≡ source_store m st packet
  same_store = store_told (source_run m st packet) ends

  pub same_verdict : flat_verdict (flat_of m) st packet ≡ source_verdict m st packet
  same_verdict = verdict_told (source_run m st packet) ends
