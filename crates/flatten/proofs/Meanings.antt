-- What a piece of a flat program does is what its source does: each value has its number by the run of the whole program.
use Rattle.std.proofs.Common.{◌≡◌, ℕ, zero, suc, ◌+◌, ◌<◌, ◌≤◌, ◌^◌, ◌%◌, ◌==◌, Bool, true, false, ◌&&◌, cond, List, [], ◌∷◌, map, length, Option, Some, None, is_some, refl, sym, ap, ◌∙◌, subst, arith, slice_index, slice_set, if◌then◌else◌, true≢false, lit<, ◌⊎◌, inl, inr, ⊎_elim}
use Rattle.std.proofs.Math.Nat.{mod-eq_of_lt}
use Rattle.gal_bits.specs.declared.op.Op.{Op}
use Rattle.gal_bits.specs.declared.op.Op.TheVariants.{Select}
use Rattle.gal_bits.specs.Operators.{bit, value_of as operator_value}
use Rattle.packet_fields.specs.Arrivals.{IsArrival}
use Rattle.packet_fields.specs.declared.field.Field.{Field}
use Rattle.packet_fields.specs.declared.packet.Packet.{Packet}
use Rattle.packet_fields.specs.declared.verdict.Verdict.{Verdict}
use Rattle.packet_fields.specs.declared.verdict.Verdict.TheVariants.{Drop, Send}
use Rattle.packet_fields.specs.FieldOrder.{same_index}
use Rattle.packet_fields.specs.Table.{row, all_fields, field_index, field_widths}
use Rattle.packet_fields.specs.Fields.{field_value}
use Rattle.state_store.specs.Store.{Store, object_at, looked_up}
use Rattle.state_store.specs.Store as store
use Rattle.state_store.specs.Widths.{AtWidths, at_place}
use Rattle.element_lang.specs.KeptRuns.{Fits, bound_fits}
use Rattle.element_lang.specs.Meaning as source
use Rattle.element_lang.specs.Meaning.{State, Outcome, Running, Ended, then_do, with_fields, value_of, values_of}
use Rattle.element_lang.specs.Tree.{ExprTree, Exprs, Tree}
use Rattle.element_lang.specs.Widths.{local_widths}
use Rattle.flat_ir.specs.declared.program.Block.{Block}
use Rattle.flat_ir.specs.declared.program.ValueId.{ValueId}
use Rattle.flat_ir.specs.Blocks.{is_on, same, is_live}
use Rattle.flat_ir.specs.Laws.{IsItsValues, Same}
use Rattle.flat_ir.specs.Program as flat
use Rattle.flat_ir.specs.Program.{Program, Step, Work, operands, step_at}
use Rattle.flat_ir.specs.Run.{Change, Machine, after, flat_run, results, made, change_of, with_changes}
use Rattle.flat_ir.specs.WellFormed.{IsWellFormed}
use Rattle.flat_ir.proofs.Laws.{a_run_is_its_values, lines_of_blocks-live}
use Rattle.flat_ir.proofs.Readings.{change_same, same_for_operands}
use Rattle.flat_ir.proofs.Runs.{stands}
use Rattle.lemmas.proofs.Lists.{each_weaker}
use Rattle.flatten.specs.declared.place.Ending.{Ending}
use Rattle.flatten.specs.declared.place.Ending.TheVariants.{No, Yes, Maybe}
use Rattle.flatten.specs.declared.place.Place.{Place}
use Rattle.flatten.specs.Flatten.{Emitted, View, At, Valued, Listed, Scoped, Merged, result_of, nought, one, nought_port, emit, give, opened, operation, same_id, merge_id, merge_option, merge_ids, merge_ended, ended_id, ends, bound, bound_to, assigned, finished, leave, constants}
use Rattle.flatten.proofs.FormedPieces.{whole, IsPart, step_emitted, block_opened}
use Rattle.flatten.proofs.Growth.{then_grows, emit_length, merge_ids_grow}
use Rattle.flatten.proofs.Views.{Meets, AllHave, Agree, agree_set, have_scope}
use Rattle.flatten.proofs.Written.{same_ids}

-- ## Single instructions

-- a select, by its condition
select_first : (w c a b : ℕ) → c ≡ 1 → a < 2 ^ w → operator_value Select w (c ∷ a ∷ b ∷ []) ≡ a
unfolding operator_value
select_first w c a b e lt = ap (λ n. (if n == 1 then a else b) % 2 ^ w) e ∙ mod-eq_of_lt lt

select_second : (w c a b : ℕ) → c ≡ 0 → b < 2 ^ w → operator_value Select w (c ∷ a ∷ b ∷ []) ≡ b
unfolding operator_value
select_second w c a b e lt = ap (λ n. (if n == 1 then a else b) % 2 ^ w) e ∙ mod-eq_of_lt lt

made_none : (live : Bool) → made live None ≡ []
made_none true = refl
made_none false = refl

off_second : (a b : Bool) → b ≡ false → (a && b) ≡ false
off_second true b e = e
off_second false b e = refl

-- a condition is 0 or 1
bit_cases : (n : ℕ) → n < 2 ^ 1 → (n ≡ 0) ⊎ (n ≡ 1)
bit_cases zero lt = inl refl
bit_cases (suc zero) lt = inr refl
bit_cases (suc (suc n)) lt = absurd (omega (arith, lt))

-- ## Locals that have the results of an instruction

abbrev set_all : ℕ → ℕ → List ℕ → List (Option ValueId) → List (Option ValueId)
set_all n j [] ids = ids
set_all n j (x ∷ xs) ids = set_all n (suc j) xs (slice_set ids x (Some (result_of n j)))

bound_all : (n j : ℕ) (xs : List ℕ) (w : View) → bound_to n j xs w ≡ record w { locals = set_all n j xs w.locals }
bound_all n j [] w = refl
bound_all n j (x ∷ xs) w = bound_all n (suc j) xs (bound x (result_of n j) w)

agree_all : (f : ValueId → ℕ) (n : ℕ) (values : List ℕ) → ((i : ℕ) → f (result_of n (suc i)) ≡ slice_index values i) → (i j : ℕ) → j ≡ suc i
    → (xs : List ℕ) (ids : List (Option ValueId)) (us : List ℕ)
    → Agree f ids us → Agree f (set_all n j xs ids) (source.bind_from i xs values us)
agree_all f n values told i j e [] ids us a = a
agree_all f n values told i j e (x ∷ xs) ids us a =
    let next : suc j ≡ suc (i + 1) = omega (arith, e) in
    agree_all f n values told (i + 1) (suc j) next xs (slice_set ids x (Some (result_of n j))) (slice_set us x (slice_index values i))
    (agree_set f ids us x (result_of n j) (slice_index values i) (ap (λ k. f (result_of n k)) e ∙ told i) a)

-- what a piece of the source does from a state
abbrev pub Doing : Type 0
Doing = State → Outcome

-- ## Runs of the whole program

pub record Run (F : Program) : Type 0 where
  pub store : Store
  pub packet : Packet
  pub arrives : IsArrival packet
  pub well : IsWellFormed F

module _ (F : Program) (c : Run F) where
  -- the number of a value, whether a block is live, and the store behind what is given
  abbrev pub val : ValueId → ℕ
  val = (flat_run F c.store c.packet).reads

  abbrev pub lv : ℕ → Bool
  lv = is_live F.blocks val

  abbrev pub store_at : Emitted → Store
  store_at g = (after F c.store c.packet (length g.code)).store

  emitted : (p : Place) (work : Work) (g : Emitted) → IsPart F (emit p work g) → IsItsValues F c.store c.packet (length g.code)
  emitted p work g part = a_run_is_its_values F c.store c.packet (length g.code) c.well (omega (arith, emit_length p work g, part.longer))

  pub emit_reads : (p : Place) (work : Work) (g : Emitted) → IsPart F (emit p work g) → (j : ℕ)
      → val (result_of (length g.code) j) ≡ slice_index (results val (lv p.block) (store_at g) c.packet work) j
  emit_reads p work g part j =
      (emitted p work g part).value j ∙ ap (λ (s : Step). slice_index (results val (lv s.block) (store_at g) c.packet s.work) j) (step_emitted F p work g part)

  pub emit_store : (p : Place) (work : Work) (g : Emitted) → IsPart F (emit p work g)
      → store_at (emit p work g) ≡ with_changes (store_at g) (made (lv p.block) (change_of val (store_at g) work))
  emit_store p work g part =
      let n = length g.code in
      let within : n < length F.code = omega (arith, emit_length p work g, part.longer) in
      let m : ℕ → Machine = after F c.store c.packet in
      let s : Step = step_at F n in
      let before = each_weaker (λ (v : ValueId). v.instruction < n) (Same (m n).reads val) (stands F c.store c.packet c.well n within) (operands s.work) (c.well.after_operands n within) in
      ap (λ k. (m k).store) (emit_length p work g)
      ∙ ap (λ l. with_changes (store_at g) (made l (change_of (m n).reads (store_at g) s.work))) (emitted p work g part).live
      ∙ ap (λ d. with_changes (store_at g) (made (lv s.block) d)) (change_same (m n).reads val (store_at g) s.work (same_for_operands (m n).reads val s.work before))
      ∙ ap (λ (s : Step). with_changes (store_at g) (made (lv s.block) (change_of val (store_at g) s.work))) (step_emitted F p work g part)

  pub emit_still : (p : Place) (work : Work) (g : Emitted) → IsPart F (emit p work g) → change_of val (store_at g) work ≡ None
      → store_at (emit p work g) ≡ store_at g
  emit_still p work g part e =
      emit_store p work g part ∙ ap (λ d. with_changes (store_at g) (made (lv p.block) d)) e ∙ ap (with_changes (store_at g)) (made_none (lv p.block))

  pub open_live : (p : Place) (v : ValueId) (polarity : Bool) (g : Emitted) → IsPart F (opened p v polarity g)
      → lv (suc (length g.blocks)) ≡ (same polarity (is_on (val v)) && lv p.block)
  open_live p v polarity g part =
      lines_of_blocks-live F.blocks val (length g.blocks) c.well.parents ∙ ap (λ (b : Block). same b.polarity (is_on (val b.cond)) && lv b.parent) (block_opened F p v polarity g part)

  -- an operation gives its operator's value, and changes nothing
  abbrev Gives : Bool → Store → Work → Op → ℕ → List ValueId → Type 0
  Gives live st work op width ids =
      (slice_index (results val live st c.packet work) 0 ≡ operator_value op width (map val ids)) × (change_of val st work ≡ None)

  apply_gives : (live : Bool) (st : Store) (op : Op) (width : ℕ) (ids : List ValueId) → Gives live st (flat.apply op width ids) op width ids
  apply_gives live st op width ids = (refl, refl)

  operation_gives : (live : Bool) (st : Store) (op : Op) (width : ℕ) (ids : List ValueId) → Gives live st (operation op width ids) op width ids
  operation_gives live st Select width (a ∷ b ∷ d ∷ []) = (refl, refl)
  operation_gives live st op width ids = apply_gives live st op width ids

  module _ (base : IsPart F constants) where
    -- the constants that come first
    constant_is : (i : ℕ) (s : Step) → i < 3 → step_at F i ≡ s
        → val (result_of i 0) ≡ slice_index (results val (lv s.block) (after F c.store c.packet i).store c.packet s.work) 0
    constant_is i s lt e =
        let long : 3 ≤ length F.code = base.longer in
        (a_run_is_its_values F c.store c.packet i c.well (omega (arith, lt, long))).value 0
        ∙ ap (λ (s : Step). slice_index (results val (lv s.block) (after F c.store c.packet i).store c.packet s.work) 0) e

    pub nought_is : val nought ≡ 0
    nought_is = constant_is 0 _ (lit< tt) (base.steps 0 (lit< tt))

    pub one_is : val one ≡ 1
    one_is = constant_is 1 _ (lit< tt) (base.steps 1 (lit< tt))

    -- ## Two values made one

    -- a value, a variable and a list of them has the number of another one, where the number fits
    abbrev Passes : ℕ → ValueId → ValueId → Type 0
    Passes w a b = (u : ℕ) → u < 2 ^ w → val a ≡ u → val b ≡ u

    abbrev MayPass : ℕ → Option ValueId → Option ValueId → Type 0
    MayPass w x y = (u : ℕ) → u < 2 ^ w → Meets val x u → Meets val y u

    abbrev AllPass : List ℕ → List (Option ValueId) → List (Option ValueId) → Type 0
    AllPass ws xs ys = (us : List ℕ) → AtWidths ws us → Agree val xs us → Agree val ys us

    -- one value of two, the first where v is 1
    pub record Chosen (v : ValueId) (w : ℕ) (a b : ValueId) (g : Emitted) (r : Valued) : Type 0 where
      pub still : store_at r.given ≡ store_at g
      pub first : val v ≡ 1 → Passes w a r.id
      pub second : val v ≡ 0 → Passes w b r.id

    chosen_select : (p : Place) (v : ValueId) (w : ℕ) (a b : ValueId) (g : Emitted) → IsPart F (emit p (flat.select w v a b) g)
        → Chosen v w a b g (give p (flat.select w v a b) g)
    chosen_select p v w a b g part =
        let reads = emit_reads p (flat.select w v a b) g part 0 in
        record {
          still = emit_still p (flat.select w v a b) g part refl;
          first = λ on u lt is. reads ∙ select_first w (val v) (val a) (val b) on (subst (λ n. n < 2 ^ w) (sym is) lt) ∙ is;
          second = λ off u lt is. reads ∙ select_second w (val v) (val a) (val b) off (subst (λ n. n < 2 ^ w) (sym is) lt) ∙ is;
        }

    chosen_case : (same_one : Bool) (p : Place) (v : ValueId) (w : ℕ) (a b : ValueId) (g : Emitted) → same_id a b ≡ same_one
        → let r : Valued = cond same_one (record { given = g; id = a }) (give p (flat.select w v a b) g) in IsPart F r.given → Chosen v w a b g r
    chosen_case true p v w a b g e part = record { still = refl; first = λ on u lt is. is; second = λ off u lt is. ap val (same_ids a b e) ∙ is }
    chosen_case false p v w a b g e part = chosen_select p v w a b g part

    pub merge_id_means : (p : Place) (v : ValueId) (w : ℕ) (a b : ValueId) (g : Emitted) → IsPart F (merge_id p v w a b g).given
        → Chosen v w a b g (merge_id p v w a b g)
    merge_id_means p v w a b g part = chosen_case (same_id a b) p v w a b g refl part

    record ChosenOption (v : ValueId) (w : ℕ) (x y : Option ValueId) (g : Emitted) (r : Merged) : Type 0 where
      still : store_at r.given ≡ store_at g
      first : val v ≡ 1 → MayPass w x r.id
      second : val v ≡ 0 → MayPass w y r.id

    merge_option_means : (p : Place) (v : ValueId) (w : ℕ) (x y : Option ValueId) (g : Emitted) → IsPart F (merge_option p v w x y g).given
        → ChosenOption v w x y g (merge_option p v w x y g)
    merge_option_means p v w (Some a) (Some b) g part = let s = merge_id_means p v w a b g part in record { still = s.still; first = s.first; second = s.second }
    merge_option_means p v w _ _ g part = record { still = refl; first = λ on u lt is. tt; second = λ off u lt is. tt }

    pub record ChosenAll (v : ValueId) (ws : List ℕ) (xs ys : List (Option ValueId)) (g : Emitted) (r : Scoped) : Type 0 where
      pub still : store_at r.given ≡ store_at g
      pub first : val v ≡ 1 → AllPass ws xs r.ids
      pub second : val v ≡ 0 → AllPass ws ys r.ids

    all_cons : (w : ℕ) (ws : List ℕ) (i j : Option ValueId) (is js : List (Option ValueId)) → MayPass w i j → AllPass ws is js
        → AllPass (w ∷ ws) (i ∷ is) (j ∷ js)
    all_cons w ws i j is js here rest [] fit a = a
    all_cons w ws i j is js here rest (u ∷ us) fit a = (here u (fit 0) a.0, rest us (λ place. fit (suc place)) a.1)

    pub merge_ids_means : (P Q : ℕ → ValueId → Type 0) (p : Place) (v : ValueId) (ws : List ℕ) (xs ys : List (Option ValueId)) (g : Emitted)
        → IsPart F (merge_ids p v ws xs ys g).given → AllHave P ws xs → AllHave Q ws ys
        → ChosenAll v ws xs ys g (merge_ids p v ws xs ys g)
    merge_ids_means P Q p v [] [] [] g part hx hy = record { still = refl; first = λ on us fit a. a; second = λ off us fit a. a }
    merge_ids_means P Q p v [] (x ∷ xs) ys g part hx hy = absurd hx
    merge_ids_means P Q p v (w ∷ ws) [] ys g part hx hy = absurd hx
    merge_ids_means P Q p v (w ∷ ws) (x ∷ xs) (y ∷ ys) g part hx hy =
        let r = merge_option p v w x y g in
        let rest = merge_ids p v ws xs ys r.given in
        let s = merge_option_means p v w x y g (then_grows r.given rest.given (whole F) (merge_ids_grow p v ws xs ys r.given) part) in
        let t = merge_ids_means P Q p v ws xs ys r.given part hx.1 hy.1 in
        record {
          still = t.still ∙ s.still;
          first = λ on. all_cons w ws x r.id xs rest.ids (s.first on) (t.first on);
          second = λ off. all_cons w ws y r.id ys rest.ids (s.second off) (t.second off);
        }
    merge_ids_means P Q p v _ _ _ g part hx hy = absurd hy

    pub merge_ended_means : (p : Place) (v : ValueId) (x y : Ending) (g : Emitted) → let r = merge_ended p v x y g in IsPart F r.given
        → Chosen v 1 (ended_id x) (ended_id y) g (record { given = r.given; id = ended_id r.ended })
    merge_ended_means p v No No g part = record { still = refl; first = λ on u lt is. is; second = λ off u lt is. is }
    merge_ended_means p v Yes Yes g part = record { still = refl; first = λ on u lt is. is; second = λ off u lt is. is }
    merge_ended_means p v Yes No g part = record { still = refl; first = λ on u lt is. on ∙ sym one_is ∙ is; second = λ off u lt is. off ∙ sym nought_is ∙ is }
    merge_ended_means p v x y g part = chosen_select p v 1 (ended_id x) (ended_id y) g part

    module _ (m : Tree) (occurs : Field → Bool) where
      abbrev ws : List ℕ
      ws = local_widths m

      -- one state has what another one has
      pub record Alike (w w' : View) : Type 0 where
        pub locals : AllPass ws w.locals w'.locals
        pub fields : AllPass field_widths w.fields w'.fields
        pub send : Passes 1 w.send w'.send
        pub port : Passes 8 w.port w'.port
        pub ended : Passes 1 (ended_id w.ended) (ended_id w'.ended)

      -- two states are made one
      pub record Joined (v : ValueId) (g : Emitted) (a b : View) (r : At) : Type 0 where
        pub still : store_at r.given ≡ store_at g
        pub first : val v ≡ 1 → Alike a r.view
        pub second : val v ≡ 0 → Alike b r.view

      -- ## Expressions

      -- what an expression gives is its value
      pub record Valuable (e : ExprTree) (w : View) (g : Emitted) (r : Valued) : Type 0 where
        pub still : store_at r.given ≡ store_at g
        pub reads : (s : State) → Agree val w.locals s.locals → Agree val w.fields s.fields → val r.id ≡ value_of ws c.packet e s

      pub record Listable (es : Exprs) (w : View) (g : Emitted) (r : Listed) : Type 0 where
        pub still : store_at r.given ≡ store_at g
        pub reads : (s : State) → Agree val w.locals s.locals → Agree val w.fields s.fields → map val r.ids ≡ values_of ws c.packet es s

      -- one instruction that gives a number from those of a part
      pub valued_emit : (p : Place) (work : Work) (e : ExprTree) (w : View) (g h : Emitted) → IsPart F (emit p work h) → store_at h ≡ store_at g
          → change_of val (store_at h) work ≡ None
          → ((s : State) → Agree val w.locals s.locals → Agree val w.fields s.fields → slice_index (results val (lv p.block) (store_at h) c.packet work) 0 ≡ value_of ws c.packet e s)
          → Valuable e w g (give p work h)
      valued_emit p work e w g h part still none told = record {
        still = emit_still p work h part none ∙ still;
        reads = λ s a a'. emit_reads p work h part 0 ∙ told s a a';
      }

      pub operation_means : (p : Place) (op : Op) (width : ℕ) (args : Exprs) (w : View) (g : Emitted) (r : Listed)
          → IsPart F (emit p (operation op width r.ids) r.given) → Listable args w g r
          → Valuable (ExprTree.apply op width args) w g (give p (operation op width r.ids) r.given)
      operation_means p op width args w g r part s =
          let gives = operation_gives (lv p.block) (store_at r.given) op width r.ids in
          valued_emit p (operation op width r.ids) (ExprTree.apply op width args) w g r.given part s.still gives.1
          (λ st a a'. gives.0 ∙ ap (operator_value op width) (s.reads st a a'))

      -- ## How a run stands

      -- a field that doesn't occur has its first value
      abbrev pub Still : List ℕ → Type 0
      Still us = (f : Field) → occurs f ≡ false → slice_index us (field_index f) ≡ field_value c.packet.bytes c.packet.port f

      -- the source's run goes on, and the state stands for its variables
      pub record Going (st : Store) (w : View) (s : State) : Type 0 where
        pub fits : Fits m s
        pub locals : Agree val w.locals s.locals
        pub fields : Agree val w.fields s.fields
        pub still : Still s.fields
        pub ended : val (ended_id w.ended) ≡ 0
        pub send : val w.send ≡ 0
        pub store : st ≡ s.store

      -- the packet leaves by this port as these bytes
      pub record Leaves (fields : List (Option ValueId)) (send port : ValueId) (by : ℕ) (now : List ℕ) : Type 0 where
        pub values : List ℕ
        pub fits : AtWidths field_widths values
        pub agree : Agree val fields values
        pub still : Still values
        pub bytes : now ≡ with_fields all_fields values c.packet.bytes
        pub sent : val send ≡ 1
        pub out : val port ≡ by
        pub small : by < 2 ^ 8

      abbrev pub EndsWith : List (Option ValueId) → ValueId → ValueId → Verdict → Type 0
      EndsWith fields send port Drop = val send ≡ 0
      EndsWith fields send port (Send by now) = Leaves fields send port by now

      -- the source's run has ended
      pub record Gone (st : Store) (w : View) (left : Store) (verdict : Verdict) : Type 0 where
        pub ended : val (ended_id w.ended) ≡ 1
        pub does : EndsWith w.fields w.send w.port verdict
        pub store : st ≡ left

      abbrev pub Stands : Store → View → Outcome → Type 0
      Stands st w (Running s) = Going st w s
      Stands st w (Ended left verdict) = Gone st w left verdict

      does_alike : (w w' : View) (verdict : Verdict) → Alike w w' → EndsWith w.fields w.send w.port verdict → EndsWith w'.fields w'.send w'.port verdict
      does_alike w w' Drop e z = e.send 0 (lit< tt) z
      does_alike w w' (Send port bytes) e z = record {
        values = z.values;
        fits = z.fits;
        agree = e.fields z.values z.fits z.agree;
        still = z.still;
        bytes = z.bytes;
        sent = e.send 1 (lit< tt) z.sent;
        out = e.port port z.small z.out;
        small = z.small;
      }

      stands_alike : (st st' : Store) (w w' : View) (o : Outcome) → st' ≡ st → Alike w w' → Stands st w o → Stands st' w' o
      stands_alike st st' w w' (Running s) same_store e z = record {
        fits = z.fits;
        locals = e.locals s.locals z.fits.locals z.locals;
        fields = e.fields s.fields z.fits.fields z.fields;
        still = z.still;
        ended = e.ended 0 (lit< tt) z.ended;
        send = e.send 0 (lit< tt) z.send;
        store = same_store ∙ z.store;
      }
      stands_alike st st' w w' (Ended left verdict) same_store e z =
          record { ended = e.ended 1 (lit< tt) z.ended; does = does_alike w w' verdict e z.does; store = same_store ∙ z.store }

      -- ## Pieces

      -- a piece does what the source does where its block is live, and nothing to the store where it isn't
      pub record Sound (live : Bool) (g : Emitted) (w : View) (go : Doing) (r : At) : Type 0 where
        pub dead : live ≡ false → store_at r.given ≡ store_at g
        pub alive : live ≡ true → (s : State) → Going (store_at g) w s → Stands (store_at r.given) r.view (go s)

      -- and it leaves a run that has ended
      pub record Carried (live : Bool) (g : Emitted) (w : View) (go : Doing) (r : At) : Type 0 where
        pub dead : live ≡ false → store_at r.given ≡ store_at g
        pub alive : live ≡ true → (o : Outcome) → Stands (store_at g) w o → Stands (store_at r.given) r.view (then_do o go)

      each_outcome : (st st' : Store) (w w' : View) (go : Doing) → ((s : State) → Going st w s → Stands st' w' (go s))
          → ((left : Store) (verdict : Verdict) → Gone st w left verdict → Gone st' w' left verdict)
          → (o : Outcome) → Stands st w o → Stands st' w' (then_do o go)
      each_outcome st st' w w' go runs ends (Running s) z = runs s z
      each_outcome st st' w w' go runs ends (Ended left verdict) z = ends left verdict z

      pub nothing_means : (live : Bool) (g : Emitted) (w : View) → Carried live g w Running (record { given = g; view = w })
      nothing_means live g w = record { dead = λ off. refl; alive = λ on. each_outcome (store_at g) (store_at g) w w Running (λ s z. z) (λ left verdict z. z) }

      -- one piece and then another
      pub both_means : (live : Bool) (g : Emitted) (w : View) (f go : Doing) (r r' : At) → Sound live g w f r → Carried live r.given r.view go r'
          → Sound live g w (λ s. then_do (f s) go) r'
      both_means live g w f go r r' a b = record { dead = λ off. b.dead off ∙ a.dead off; alive = λ on s z. b.alive on (f s) (a.alive on s z) }

      pub carried_sound : (live : Bool) (g : Emitted) (w : View) (go : Doing) (r : At) → Carried live g w go r → Sound live g w go r
      carried_sound live g w go r b = record { dead = b.dead; alive = λ on s. b.alive on (Running s) }

      -- where no run has ended, and where every run has
      pub running_means : (live : Bool) (g : Emitted) (w : View) (go : Doing) (r : At) → w.ended ≡ No → Sound live g w go r → Carried live g w go r
      running_means live g w go r e s = record {
        dead = s.dead;
        alive = λ on. each_outcome (store_at g) (store_at r.given) w r.view go (s.alive on)
            (λ left verdict z. absurd (let off = ap (λ x. val (ended_id x)) e ∙ nought_is in omega (arith, off, z.ended)));
      }

      pub ended_means : (live : Bool) (g : Emitted) (w : View) (go : Doing) → w.ended ≡ Yes → Carried live g w go (record { given = g; view = w })
      ended_means live g w go e = record {
        dead = λ off. refl;
        alive = λ on. each_outcome (store_at g) (store_at g) w w go (λ s z. absurd (let on = ap (λ x. val (ended_id x)) e ∙ one_is in omega (arith, on, z.ended))) (λ left verdict z. z);
      }

      -- where a run may have ended
      pub follow_means : (k : ℕ) (u : ValueId) (g : Emitted) (w : View) (go : Doing) (rb j : At) → w.ended ≡ Maybe u
          → Sound (same false (is_on (val u)) && lv k) g (ends No w) go rb → Joined u rb.given (ends Yes w) rb.view j
          → Carried (lv k) g w go j
      follow_means k u g w go rb j e sb js =
          let is : val (ended_id w.ended) ≡ val u = ap (λ x. val (ended_id x)) e in
          record {
            dead = λ off. js.still ∙ sb.dead (off_second (same false (is_on (val u))) (lv k) off);
            alive = λ on. each_outcome (store_at g) (store_at j.given) w j.view go
                (λ s z.
                let off : val u ≡ 0 = sym is ∙ z.ended in
                let z' : Going (store_at g) (ends No w) s = record { fits = z.fits; locals = z.locals; fields = z.fields; still = z.still; ended = nought_is; send = z.send; store = z.store } in
                stands_alike (store_at rb.given) (store_at j.given) rb.view j.view (go s) js.still (js.second off) (sb.alive (ap (λ n. same false (is_on n) && lv k) off ∙ on) s z'))
                (λ left verdict z.
                let over : val u ≡ 1 = sym is ∙ z.ended in
                let z' : Gone (store_at g) (ends Yes w) left verdict = record { ended = one_is; does = z.does; store = z.store } in
                stands_alike (store_at g) (store_at j.given) (ends Yes w) j.view (Ended left verdict) (js.still ∙ sb.dead (ap (λ n. same false (is_on n) && lv k) over)) (js.first over) z');
          }

      -- a choice, from its condition and its sides
      pub choose_means : (k : ℕ) (g : Emitted) (w : View) (e : ExprTree) (x : Valued) (fa fb : Doing) (ra rb j : At) → Valuable e w g x
          → ((s : State) → Fits m s → value_of ws c.packet e s < 2 ^ 1)
          → Sound (same true (is_on (val x.id)) && lv k) x.given w fa ra → Sound (same false (is_on (val x.id)) && lv k) ra.given w fb rb
          → Joined x.id rb.given ra.view rb.view j
          → Sound (lv k) g w (λ s. if value_of ws c.packet e s == 0 then fb s else fa s) j
      choose_means k g w e x fa fb ra rb j sx small sa sb js =
          let taken : Bool → ℕ → Bool = λ polarity n. same polarity (is_on n) && lv k in
          record {
            dead = λ off. js.still ∙ sb.dead (off_second (same false (is_on (val x.id))) (lv k) off) ∙ sa.dead (off_second (same true (is_on (val x.id))) (lv k) off) ∙ sx.still;
            alive = λ on s z.
                let is = sx.reads s z.locals z.fields in
                let at_x : Going (store_at x.given) w s = subst (λ st. Going st w s) (sym sx.still) z in
                ⊎_elim
                (λ none.
                let v_is : val x.id ≡ 0 = is ∙ none in
                let at_a : Going (store_at ra.given) w s = subst (λ st. Going st w s) (sym (sa.dead (ap (taken true) v_is))) at_x in
                subst (λ n. Stands (store_at j.given) j.view (cond (n == 0) (fb s) (fa s))) (sym none)
                (stands_alike (store_at rb.given) (store_at j.given) rb.view j.view (fb s) js.still (js.second v_is) (sb.alive (ap (taken false) v_is ∙ on) s at_a)))
                (λ some.
                let v_is : val x.id ≡ 1 = is ∙ some in
                subst (λ n. Stands (store_at j.given) j.view (cond (n == 0) (fb s) (fa s))) (sym some)
                (stands_alike (store_at ra.given) (store_at j.given) ra.view j.view (fa s) (js.still ∙ sb.dead (ap (taken false) v_is)) (js.first v_is) (sa.alive (ap (taken true) v_is ∙ on) s at_x)))
                (bit_cases (value_of ws c.packet e s) (small s z.fits));
          }

      -- ## Statements

      -- a value comes to a local, and the store may change
      going_bound : (st st' left : Store) (w : View) (x : ℕ) (id : ValueId) (s : State) (u : ℕ) → Going st w s → val id ≡ u → st' ≡ left
          → Fits m (record { locals = slice_set s.locals x u; fields = s.fields; store = left })
          → Going st' (bound x id w) (record { locals = slice_set s.locals x u; fields = s.fields; store = left })
      going_bound st st' left w x id s u z is same_store fit =
          record { fits = fit; locals = agree_set val w.locals s.locals x id u is z.locals; fields = z.fields; still = z.still; ended = z.ended; send = z.send; store = same_store }

      pub bind_means : (live : Bool) (g : Emitted) (w : View) (x : ℕ) (e : ExprTree) (r : Valued) → Valuable e w g r
          → ((s : State) → Fits m s → Fits m (source.bound x (value_of ws c.packet e s) s))
          → Sound live g w (λ s. Running (source.bound x (value_of ws c.packet e s) s)) (record { given = r.given; view = bound x r.id w })
      bind_means live g w x e r v fit = record {
        dead = λ off. v.still;
        alive = λ on s z. going_bound (store_at g) (store_at r.given) s.store w x r.id s (value_of ws c.packet e s) z (v.reads s z.locals z.fields) (v.still ∙ z.store) (fit s z.fits);
      }

      pub set_field_means : (live : Bool) (g : Emitted) (w : View) (f : Field) (e : ExprTree) (r : Valued) → Valuable e w g r → occurs f ≡ true
          → ((s : State) → Fits m s → value_of ws c.packet e s < 2 ^ (row f).width)
          → ((s : State) → Fits m s → Fits m (source.assigned f (value_of ws c.packet e s) s))
          → Sound live g w (λ s. Running (source.assigned f (value_of ws c.packet e s) s)) (record { given = r.given; view = assigned f r.id w })
      set_field_means live g w f e r v occurs_f small fit = record {
        dead = λ off. v.still;
        alive = λ on s z.
            let value = value_of ws c.packet e s % 2 ^ (row f).width in
            let is : val r.id ≡ value = v.reads s z.locals z.fields ∙ sym (mod-eq_of_lt (small s z.fits)) in
            record {
              fits = fit s z.fits;
              locals = z.locals;
              fields = agree_set val w.fields s.fields (field_index f) r.id value is z.fields;
              still = λ k no.
                  at_place (λ n. n ≡ field_value c.packet.bytes c.packet.port k) s.fields (field_index f) value (field_index k) (z.still k no)
                  (λ same_one. absurd (true≢false (sym occurs_f ∙ ap occurs (same_index f k same_one) ∙ no)));
              ended = z.ended;
              send = z.send;
              store = v.still ∙ z.store;
            };
      }

      -- a put or a del, whose one result comes to a local
      pub write_means : (p : Place) (g h : Emitted) (w : View) (x : ℕ) (work : Work) (change : State → Option Change) (answer : State → ℕ) (next : State → Store)
          → IsPart F (emit p work h) → store_at h ≡ store_at g
          → slice_index (results val (lv p.block) (store_at h) c.packet work) 0 ≡ length (made (lv p.block) (change_of val (store_at h) work))
          → ((s : State) → Agree val w.locals s.locals → Agree val w.fields s.fields → change_of val s.store work ≡ change s)
          → ((s : State) → (length (made true (change s)) ≡ answer s) × (with_changes s.store (made true (change s)) ≡ next s))
          → ((s : State) → Fits m s → Fits m (record { locals = slice_set s.locals x (answer s); fields = s.fields; store = next s }))
          → Sound (lv p.block) g w (λ s. Running (record { locals = slice_set s.locals x (answer s); fields = s.fields; store = next s })) (record { given = emit p work h; view = bound x (result_of (length h.code) 0) w })
      write_means p g h w x work change answer next part still gives reads tells fit = record {
        dead = λ off. emit_store p work h part ∙ ap (λ l. with_changes (store_at h) (made l (change_of val (store_at h) work))) off ∙ still;
        alive = λ on s z.
            let changes : made (lv p.block) (change_of val (store_at h) work) ≡ made true (change s) =
            ap (λ l. made l (change_of val (store_at h) work)) on ∙ ap (λ st. made true (change_of val st work)) (still ∙ z.store) ∙ ap (made true) (reads s z.locals z.fields) in
            going_bound (store_at g) (store_at (emit p work h)) (next s) w x (result_of (length h.code) 0) s (answer s) z
            (emit_reads p work h part 0 ∙ gives ∙ ap length changes ∙ (tells s).0)
            (emit_store p work h part ∙ ap (with_changes (store_at h)) changes ∙ ap (λ st. with_changes st (made true (change s))) (still ∙ z.store) ∙ (tells s).1)
            (fit s z.fits);
      }

      pub look_means : (p : Place) (g : Emitted) (w : View) (found : ℕ) (into : List ℕ) (object : ℕ) (keys : Exprs) (ks : Listed)
          → IsPart F (emit p (flat.look object ks.ids) ks.given) → Listable keys w g ks
          → ((s : State) → Fits m s → Fits m (source.looked found into object (values_of ws c.packet keys s) s))
          → Sound (lv p.block) g w (λ s. Running (source.looked found into object (values_of ws c.packet keys s) s))
          (record { given = emit p (flat.look object ks.ids) ks.given; view = bound_to (length ks.given.code) 0 (found ∷ into) w })
      look_means p g w found into object keys ks part sk fit =
          let work = flat.look object ks.ids in
          let n = length ks.given.code in
          let o = emit p work ks.given in
          let still : store_at o ≡ store_at g = emit_still p work ks.given part refl ∙ sk.still in
          subst (λ v. Sound (lv p.block) g w (λ s. Running (source.looked found into object (values_of ws c.packet keys s) s)) (record { given = o; view = v })) (sym (bound_all n 0 (found ∷ into) w))
          (record {
            dead = λ off. still;
            alive = λ on s z.
                let K = values_of ws c.packet keys s in
                let told : (i : ℕ) → val (result_of n i) ≡ slice_index (bit (is_some (store.look (object_at s.store object) K)) ∷ looked_up (object_at s.store object) K) i = λ i.
                emit_reads p work ks.given part i
                ∙ ap (λ st. slice_index (results val (lv p.block) st c.packet work) i) (sk.still ∙ z.store)
                ∙ ap (λ key. slice_index (bit (is_some (store.look (object_at s.store object) key)) ∷ looked_up (object_at s.store object) key) i) (sk.reads s z.locals z.fields) in
                record {
                  fits = fit s z.fits;
                  locals = agree_all val n (looked_up (object_at s.store object) K) (λ i. told (suc i)) 0 1 refl into (slice_set w.locals found (Some (result_of n 0)))
                      (slice_set s.locals found (bit (is_some (store.look (object_at s.store object) K))))
                      (agree_set val w.locals s.locals found (result_of n 0) (bit (is_some (store.look (object_at s.store object) K))) (told 0) z.locals);
                  fields = z.fields;
                  still = z.still;
                  ended = z.ended;
                  send = z.send;
                  store = still ∙ z.store;
                };
          })

      -- a local that goes out of scope
      stands_leave : (P R : ℕ → ValueId → Type 0) (st : Store) (before w : View) (o : Outcome) → AllHave P ws before.locals → AllHave R ws w.locals
          → Stands st w o → Stands st (leave before w) o
      stands_leave P R st before w (Running s) h h' z = record {
        fits = z.fits;
        locals = have_scope P R (λ u v. val v ≡ u) ws s.locals before.locals w.locals h h' z.locals;
        fields = z.fields;
        still = z.still;
        ended = z.ended;
        send = z.send;
        store = z.store;
      }
      stands_leave P R st before w (Ended left verdict) h h' z = record { ended = z.ended; does = z.does; store = z.store }

      -- one turn
      pub turn_means : (P R : ℕ → ValueId → Type 0) (live : Bool) (g : Emitted) (n : Valued) (w : View) (x i : ℕ) (go : Doing) (r : At)
          → store_at n.given ≡ store_at g → val n.id ≡ i → slice_index ws x ≡ 32 → i < 2 ^ 32
          → AllHave P ws w.locals → AllHave R ws r.view.locals → Carried live n.given (bound x n.id w) go r
          → Sound live g w (λ s. go (source.bound x i s)) (record { given = r.given; view = leave w r.view })
      turn_means P R live g n w x i go r still is wide small h h' b = record {
        dead = λ off. b.dead off ∙ still;
        alive = λ on s z.
            let fit : Fits m (source.bound x i s) = bound_fits m x i s z.fits (subst (λ b. i < 2 ^ b) (sym wide) small) in
            stands_leave P R (store_at r.given) w r.view (go (source.bound x i s)) h h'
            (b.alive on (Running (source.bound x i s)) (going_bound (store_at g) (store_at n.given) s.store w x n.id s i z is (still ∙ z.store) fit));
      }

      pub send_means : (live : Bool) (g : Emitted) (w : View) (e : ExprTree) (r : Valued) → Valuable e w g r
          → ((s : State) → Fits m s → value_of ws c.packet e s < 2 ^ 8)
          → Sound live g w (λ s. Ended s.store (Send (value_of ws c.packet e s % 2 ^ 8) (with_fields all_fields s.fields c.packet.bytes))) (record { given = r.given; view = finished one r.id w })
      send_means live g w e r v small = record {
        dead = λ off. v.still;
        alive = λ on s z.
            let cut : value_of ws c.packet e s % 2 ^ 8 ≡ value_of ws c.packet e s = mod-eq_of_lt (small s z.fits) in
            record {
              ended = one_is;
              does = record {
                values = s.fields;
                fits = z.fits.fields;
                agree = z.fields;
                still = z.still;
                bytes = refl;
                sent = one_is;
                out = v.reads s z.locals z.fields ∙ sym cut;
                small = subst (λ n. n < 2 ^ 8) (sym cut) (small s z.fits);
              };
              store = v.still ∙ z.store;
            };
      }

      pub drop_means : (live : Bool) (g : Emitted) (w : View)
          → Sound live g w (λ s. Ended s.store Drop) (record { given = g; view = finished nought nought_port w })
      drop_means live g w = record { dead = λ off. refl; alive = λ on s z. record { ended = one_is; does = nought_is; store = z.store } }
