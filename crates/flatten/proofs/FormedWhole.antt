-- The flat program of a good middlebox is well formed.
use Rattle.std.proofs.Common.{◌≡◌, ℕ, zero, suc, ◌+◌, ◌<◌, ◌≤◌, ◌==◌, Bool, true, false, cond, List, [], ◌∷◌, ◌++◌, map, length, get_or, Option, Some, None, refl, sym, ap, ◌∙◌, subst, arith, true≢false, eqb-true, lit<}
use Rattle.std.proofs.lemmas.List.{length-map}
use Rattle.std.specs.List.{AllByRecursion as Each}
use Rattle.std.proofs.lemmas.Option.{same_Some}
use Rattle.packet_fields.specs.declared.field.Field.{Field}
use Rattle.packet_fields.specs.declared.field.Field.TheVariants.{MetaPort}
use Rattle.packet_fields.specs.Fields.{field_value}
use Rattle.packet_fields.specs.Table.{row, all_fields, field_index}
use Rattle.element_lang.specs.Tree.{BodyTree, Tree}
use Rattle.element_lang.specs.Meaning.{do_body}
use Rattle.element_lang.specs.Widths.{local_widths}
use Rattle.element_lang.specs.Rules.{are_good_objects, is_good}
use Rattle.flat_ir.specs.declared.program.ValueId.{ValueId}
use Rattle.flat_ir.specs.declared.program.FieldValue.{FieldValue}
use Rattle.flat_ir.specs.Program as flat
use Rattle.flat_ir.specs.Fits.{fits}
use Rattle.flat_ir.specs.Program.{Program}
use Rattle.flat_ir.specs.WellFormed.{IsOutput, IsWritten, AreInOrder, IsWellFormed}
use Rattle.flatten.specs.Flatten.{Emitted, Scoped, Merged, root, constants, same_id, give_field, give_fields, arrived, start_view, end_of, flat_of, changed, all_changed}
use Rattle.flatten.specs.Occurs.{is_in_body}
use Rattle.packet_fields.specs.FieldOrder.{at_index, index-lt, length-all_fields}
use Rattle.flatten.proofs.Growth.{Grows, grows, then_grows, both_bits, emit_grows, empty, body_grows, zero_bit}
use Rattle.flatten.proofs.Meanings.{Run, val, store_at, emit_reads, emit_still, Carried}
use Rattle.flatten.proofs.Views.{HasOption, AllHave, Agree, Meets, HasId, IsThere, have_none}
use Rattle.flatten.proofs.Written.{counted, all_counted, same_itself}
use Rattle.flatten.proofs.FormedPieces.{whole, IsPart, WorkFits, option_later, Ready, IsFormed, Open, open_more, emit_formed, given_ready, in_root, constants_ready, low_of}
use Rattle.flatten.proofs.Formed.{Ahead, Made, body_formed}
use Rattle.lemmas.proofs.Tests.{and_first, and_second}

-- ## What comes first

field_given : (b : Bool) (f : Field) (g : Emitted) → Grows g (give_field b f g).given
field_given false f g = grows g
field_given true f g = emit_grows root (flat.field f) g

fields_given : (body : BodyTree) (fs : List Field) (g : Emitted) → Grows g (give_fields body fs g).given
fields_given body [] g = grows g
fields_given body (f ∷ fs) g =
    let r = give_field (is_in_body f body) f g in
    then_grows g r.given (give_fields body fs r.given).given (field_given (is_in_body f body) f g) (fields_given body fs r.given)

module _ (F : Program) where
  abbrev pub came_as : Run F → Field → ℕ
  came_as c = field_value c.packet.bytes c.packet.port

  record First (b : Bool) (f : Field) (g : Emitted) (r : Merged) : Type 0 where
    formed : IsFormed F r.given
    ready : HasOption (Ready F 0 (length r.given.code)) (row f).width r.id
    there : b ≡ true → HasId r.id
    still : (c : Run F) → store_at F c r.given ≡ store_at F c g
    meets : (c : Run F) → Meets (val F c) r.id (came_as c f)

  first_formed : (b : Bool) (f : Field) (g : Emitted) → IsPart F (give_field b f g).given → IsFormed F g → Open F g 0 → First b f g (give_field b f g)
  first_formed false f g part h opens = record { formed = h; ready = tt; there = λ e. absurd (true≢false (sym e)); still = λ c. refl; meets = λ c. tt }
  first_formed true f g part h opens =
      let work = flat.field f in
      record {
        formed = emit_formed F root work g part h opens (record { before = tt; names = tt; sees = tt; fit = refl });
        ready = given_ready F root work g part 0 (lit< tt);
        there = λ e. tt;
        still = λ c. emit_still F c root work g part refl;
        meets = λ c. emit_reads F c root work g part 0;
      }

  pub record AllFirst (body : BodyTree) (fs : List Field) (g : Emitted) (r : Scoped) : Type 0 where
    pub formed : IsFormed F r.given
    pub ready : AllHave (Ready F 0 (length r.given.code)) (map (λ (f : Field). (row f).width) fs) r.ids
    pub there : (i : ℕ) → i < length fs → is_in_body (get_or fs i MetaPort) body ≡ true → IsThere r.ids i
    pub still : (c : Run F) → store_at F c r.given ≡ store_at F c g
    pub meets : (c : Run F) → Agree (val F c) r.ids (map (came_as c) fs)

  all_first : (body : BodyTree) (fs : List Field) (g : Emitted) → IsPart F (give_fields body fs g).given → IsFormed F g → Open F g 0 → AllFirst body fs g (give_fields body fs g)
  all_first body [] g part h opens = record { formed = h; ready = tt; there = λ i lt e. tt; still = λ c. refl; meets = λ c. tt }
  all_first body (f ∷ fs) g part h opens =
      let r = give_field (is_in_body f body) f g in
      let rest = give_fields body fs r.given in
      let grow = fields_given body fs r.given in
      let s = first_formed (is_in_body f body) f g (then_grows r.given rest.given (whole F) grow part) h opens in
      let t = all_first body fs r.given part s.formed (open_more F g r.given 0 (field_given (is_in_body f body) f g) opens) in
      let there_at : (i : ℕ) → i < suc (length fs) → is_in_body (get_or (f ∷ fs) i MetaPort) body ≡ true → IsThere (r.id ∷ rest.ids) i =
      λ i. elim i as (λ i. i < suc (length fs) → is_in_body (get_or (f ∷ fs) i MetaPort) body ≡ true → IsThere (r.id ∷ rest.ids) i) [
        | zero ↦ λ lt e. s.there e
        | suc j ↦ λ lt e. t.there j (omega (arith, lt)) e
      ] in
      record {
        formed = t.formed;
        ready = (option_later F 0 (length r.given.code) (length rest.given.code) grow.longer (row f).width r.id s.ready, t.ready);
        there = there_at;
        still = λ c. t.still c ∙ s.still c;
        meets = λ c. (s.meets c, t.meets c);
      }

  open_root : (g : Emitted) → Open F g 0
  open_root g = record { within = omega arith; before = (tt, tt) }

  record FirstOfAll : Type 0 where
    formed : IsFormed F constants
    still : (c : Run F) → store_at F c constants ≡ c.store

  constants_formed : IsPart F constants → FirstOfAll
  constants_formed part =
      let part2 : IsPart F both_bits = then_grows both_bits constants (whole F) (emit_grows root (flat.const 8 0) both_bits) part in
      let part1 : IsPart F zero_bit = then_grows zero_bit both_bits (whole F) (emit_grows root (flat.const 1 1) zero_bit) part2 in
      let fit : (width number n : ℕ) → fits F (flat.const width number) ≡ true → WorkFits F 0 n (flat.const width number) = λ width number n e. record { before = tt; names = tt; sees = tt; fit = e } in
      let none : IsFormed F empty = record { steps = λ i lt. absurd (omega (arith, lt)); blocks = λ k lt. absurd (omega (arith, lt)) } in
      let first : IsFormed F zero_bit = emit_formed F root (flat.const 1 0) empty part1 none (open_root empty) (fit 1 0 0 refl) in
      let second : IsFormed F both_bits = emit_formed F root (flat.const 1 1) zero_bit part2 first (open_root zero_bit) (fit 1 1 1 refl) in
      record {
        formed = emit_formed F root (flat.const 8 0) both_bits part second (open_root both_bits) (fit 8 0 2 refl);
        still = λ c. emit_still F c root (flat.const 8 0) both_bits part refl ∙ emit_still F c root (flat.const 1 1) zero_bit part2 refl ∙ emit_still F c root (flat.const 1 0) empty part1 refl;
      }

-- ## What leaves

-- the value of a field that can't be written is still that of its instruction
abbrev Fixed : List Field → List (Option ValueId) → List (Option ValueId) → Type 0
Fixed (f ∷ fs) (a ∷ before) (b ∷ after) = ((row f).writable ≡ false → b ≡ a) × Fixed fs before after
Fixed _ _ _ = Unit {0}

fixed_at : (fs : List Field) (before after : List (Option ValueId)) → ((i : ℕ) → i < length fs → (row (get_or fs i MetaPort)).writable ≡ false → get_or after i None ≡ get_or before i None) → Fixed fs before after
fixed_at (f ∷ fs) (a ∷ before) (b ∷ after) h = (h 0 (omega arith), fixed_at fs before after (λ i lt. h (suc i) (omega (arith, lt))))
fixed_at _ _ _ h = tt

counted_at : (k : ℕ) (fs : List Field) → counted k fs ≡ true → (i : ℕ) → i < length fs → field_index (get_or fs i MetaPort) ≡ k + i
counted_at k [] c i lt = absurd (omega (arith, lt))
counted_at k (f ∷ fs) c zero lt = let e = eqb-true (field_index f) k (and_first (field_index f == k) (counted (suc k) fs) c) in omega (arith, e)
counted_at k (f ∷ fs) c (suc i) lt =
    let e = counted_at (suc k) fs (and_second (field_index f == k) (counted (suc k) fs) c) i (omega (arith, lt)) in
    omega (arith, e)

-- the fields come from this place on
abbrev From : ℕ → List FieldValue → Type 0
From least [] = Unit {0}
From least (w ∷ ws) = (least ≤ field_index w.field) × From (suc (field_index w.field)) ws

from_more : (least least' : ℕ) (ws : List FieldValue) → least ≤ least' → From least' ws → From least ws
from_more least least' [] le h = tt
from_more least least' (w ∷ ws) le h = (omega (arith, h.0, le), h.1)

from_order : (least : ℕ) (ws : List FieldValue) → From least ws → AreInOrder ws
from_order least (w ∷ x ∷ ws) h = (h.1.0, from_order (suc (field_index w.field)) (x ∷ ws) h.1)
from_order least _ h = tt

by_test : (c : Bool) (k : ℕ) (f : Field) (v : ValueId) (rest : List FieldValue) → field_index f ≡ k → From (suc k) rest → From k (cond c [] (record { field = f; value = v } ∷ []) ++ rest)
by_test true k f v rest e h = from_more k (suc k) rest (omega arith) h
by_test false k f v rest e h = (omega (arith, e), subst (λ n. From (suc n) rest) (sym e) h)

one_from : (k : ℕ) (f : Field) (a b : Option ValueId) (rest : List FieldValue) → field_index f ≡ k → From (suc k) rest → From k (changed f a b ++ rest)
one_from k f None b rest e h = from_more k (suc k) rest (omega arith) h
one_from k f (Some a) None rest e h = from_more k (suc k) rest (omega arith) h
one_from k f (Some a) (Some b) rest e h = by_test (same_id a b) k f b rest e h

changed_from : (k : ℕ) (fs : List Field) (before after : List (Option ValueId)) → counted k fs ≡ true → From k (all_changed fs before after)
changed_from k (f ∷ fs) (a ∷ before) (b ∷ after) c =
    one_from k f a b (all_changed fs before after) (eqb-true (field_index f) k (and_first (field_index f == k) (counted (suc k) fs) c))
    (changed_from (suc k) fs before after (and_second (field_index f == k) (counted (suc k) fs) c))
changed_from k _ _ _ c = tt

module _ (F : Program) (n : ℕ) where
  output : (w : ℕ) (v : ValueId) → Ready F 0 n w v → IsOutput F w v
  output w v h = record { named = h.named; root = in_root F v h.seen; wide = h.wide }

  -- a field whose value differs can be written
  may_write : (f : Field) (a b : ValueId) (may : Bool) → (row f).writable ≡ may → same_id a b ≡ false → ((row f).writable ≡ false → Some b ≡ Some a) → (row f).writable ≡ true
  may_write f a b true e differ fixed = e
  may_write f a b false e differ fixed =
      let same : b ≡ a = same_Some b a (fixed e) in
      absurd (true≢false (sym (same_itself a) ∙ ap (same_id a) (sym same) ∙ differ))

  written_case : (c : Bool) (f : Field) (a b : ValueId) (rest : List FieldValue) → same_id a b ≡ c → Ready F 0 n (row f).width b → ((row f).writable ≡ false → Some b ≡ Some a) → Each (IsWritten F) rest
      → Each (IsWritten F) (cond c [] (record { field = f; value = b } ∷ []) ++ rest)
  written_case true f a b rest e h fixed all = all
  written_case false f a b rest e h fixed all = (record { writable = may_write f a b (row f).writable refl e fixed; output = output (row f).width b h }, all)

  written_one : (f : Field) (a b : Option ValueId) (rest : List FieldValue) → HasOption (Ready F 0 n) (row f).width b → ((row f).writable ≡ false → b ≡ a) → Each (IsWritten F) rest → Each (IsWritten F) (changed f a b ++ rest)
  written_one f (Some a) (Some b) rest h fixed all = written_case (same_id a b) f a b rest refl h fixed all
  written_one f _ _ rest h fixed all = all

  written_all : (fs : List Field) (before after : List (Option ValueId)) → AllHave (Ready F 0 n) (map (λ (f : Field). (row f).width) fs) after → Fixed fs before after → Each (IsWritten F) (all_changed fs before after)
  written_all (f ∷ fs) (a ∷ before) (b ∷ after) h fixed = written_one f a b (all_changed fs before after) h.0 fixed.0 (written_all fs before after h.1 fixed.1)
  written_all _ _ _ h fixed = tt

-- ## The whole

module _ (m : Tree) (good : is_good m ≡ true) where
  abbrev pub F : Program
  F = flat_of m

  abbrev g0 : Emitted
  g0 = (arrived m).given

  abbrev g1 : Emitted
  g1 = (end_of m).given

  pub declared : are_good_objects [] m.objects ≡ true
  declared = and_first _ _ (and_first _ _ good)

  part_end : IsPart F g1
  part_end = grows g1

  part_first : IsPart F g0
  part_first = then_grows g0 g1 (whole F) (body_grows (local_widths m) m.body root g0 (start_view m)) part_end

  pub base : IsPart F constants
  base = then_grows constants g0 (whole F) (fields_given m.body all_fields constants) part_first

  pub came : AllFirst F m.body all_fields constants (arrived m)
  came = all_first F m.body all_fields constants part_first (constants_formed F base).formed (open_root F constants)

  pub came_still : (c : Run F) → store_at F c g0 ≡ c.store
  came_still c = came.still c ∙ (constants_formed F base).still c

  abbrev pub occurs : Field → Bool
  occurs f = is_in_body f m.body

  some : 2 < length g0.code
  some = let grow = fields_given m.body all_fields constants in let long = grow.longer in omega (arith, long)

  ahead : Ahead m F refl base declared occurs root g0 (start_view m)
  ahead =
      let n = length g0.code in
      let low = low_of F g0 came.formed in
      let cs = constants_ready F base (length g0.blocks) low 0 (omega arith) n some in
      record {
        formed = came.formed;
        opens = open_root F g0;
        some = some;
        holds = record {
          locals = have_none (Ready F 0 n) (local_widths m) (length m.locals) (length-map m.locals (λ l. l.width));
          fields = came.ready;
          send = cs.nought;
          port = cs.port;
          ended = cs.nought;
        };
      }

  pub shown : (f : Field) → is_in_body f m.body ≡ true → IsThere (arrived m).ids (field_index f)
  shown f e =
      let within : field_index f < length all_fields = omega (arith, index-lt f, length-all_fields) in
      came.there (field_index f) within (ap (λ h. is_in_body h m.body) (at_index f) ∙ e)

  both : Made m F refl base declared occurs 0 (start_view m) (end_of m) × ((c : Run F) → Carried F c base m occurs true g0 (start_view m) (do_body (local_widths m) c.packet m.body) (end_of m))
  both = body_formed m F refl base declared occurs m.body [] 0 (and_second _ _ good) tt (λ f h. h) root g0 (start_view m) part_end ahead tt shown

  pub made : Made m F refl base declared occurs 0 (start_view m) (end_of m)
  made = both.0

  pub means : (c : Run F) → Carried F c base m occurs true g0 (start_view m) (do_body (local_widths m) c.packet m.body) (end_of m)
  means = both.1

  fixed_here : (i : ℕ) → i < length all_fields → (row (get_or all_fields i MetaPort)).writable ≡ false → get_or (end_of m).view.fields i None ≡ get_or (arrived m).ids i None
  fixed_here i lt not_it =
      let at : field_index (get_or all_fields i MetaPort) ≡ i = let e = counted_at 0 all_fields all_counted i lt in omega (arith, e) in
      subst (λ j. get_or (end_of m).view.fields j None ≡ get_or (arrived m).ids j None) at (made.keeps.fixed (get_or all_fields i MetaPort) not_it)

  pub well_formed : IsWellFormed (flat_of m)
  well_formed =
      let n = length g1.code in
      let h = made.formed in
      let v = made.holds in
      record {
        parents = λ k lt. (h.blocks k lt).parent;
        names_conditions = λ k lt. (h.blocks k lt).named;
        condition_widths = λ k lt. (h.blocks k lt).wide;
        conditions = λ k lt. (h.blocks k lt).seen;
        blocks = λ i lt. (h.steps i lt).block;
        after_conditions = λ i lt. (h.steps i lt).after_conditions;
        after_operands = λ i lt. (h.steps i lt).after_operands;
        names = λ i lt. (h.steps i lt).names;
        sees = λ i lt. (h.steps i lt).sees;
        fit = λ i lt. (h.steps i lt).fit;
        send = output F n 1 (end_of m).view.send v.send;
        port = output F n 8 (end_of m).view.port v.port;
        fields = written_all F n all_fields (arrived m).ids (end_of m).view.fields v.fields (fixed_at all_fields (arrived m).ids (end_of m).view.fields fixed_here);
        order = from_order 0 (all_changed all_fields (arrived m).ids (end_of m).view.fields) (changed_from 0 all_fields (arrived m).ids (end_of m).view.fields all_counted);
      }
