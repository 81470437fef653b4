-- Statements that keep the rules are made of themselves with their names put back.
use Rattle.std.proofs.Common.{◌≡◌, ℕ, zero, suc, ◌+◌, ◌≤◌, ◌<◌, true, false, not, ◌&&◌, ◌||◌, List, [], ◌∷◌, ◌++◌, length, map, take, Option, Some, None, if◌then◌else◌, slice_get, slice_index, ◌==◌, refl, sym, ap, ap₂, ◌∙◌, arith, length-take}
use Rattle.std.specs.List.{list_any, list_all}
use Rattle.std.specs.Str.{bytes_eq}
use Rattle.std.proofs.lemmas.Bool.{eqb-true, and_parts, and_from, or_parts, not-true, false≢true}
use Rattle.std.proofs.lemmas.Option.{slice_get_within}
use Rattle.packet_fields.specs.declared.field.Field.{Field}
use Rattle.packet_fields.specs.Table.{row}
use Rattle.state_store.specs.declared.object.Kind.{Kind}
use Rattle.state_store.specs.declared.object.Kind.TheVariants.{Table, Map, Vector, Int}
use Rattle.state_store.specs.declared.object.ObjectDecl.{ObjectDecl}
use Rattle.gal_bits.specs.Fits.{same_list}
use Rattle.element_lang.specs.declared.tree.Local.{Local}
use Rattle.element_lang.specs.Tree as trees
use Rattle.element_lang.specs.Tree.{ExprTree, Exprs, StmtTree, BodyTree, Tree}
use Rattle.element_lang.specs.Widths.{local_widths, width_of}
use Rattle.element_lang.specs.Rules.{is_width, widths_of, same_widths, is_good_expr, are_good_exprs, fits_keys, fits_values, can_put, can_del, object_names, counted_from, are_fresh, binds, declared_in, declared_by, always_ends, ends_always, any_repeats, is_empty, is_count, is_good_stmt, is_good_body, are_widths, is_good_object, are_good_objects}
use Rattle.element_lang.specs.Surface.{name_of_local, name_of_object, local_name, object_name, named_stmt, named_body}
use Rattle.element_text.specs.Resolve.{Known, Env, object_from, declared, all_declared, numbers_from, values_of, Made, made_stmt, made_body}
use Rattle.element_text.proofs.NamesInScope.{word_same, width_at, any_moved, empty_same}
use Rattle.element_text.proofs.CompleteExprs.{IsKnown, Reads, reads_moved, reads_pushed, expr_read, exprs_read, expr_wide}
use Rattle.lemmas.proofs.Lists.{get_within, take_next}

-- ## Objects

-- an object is found by its name, which none has that is named before, and keeps its rules
record IsObject (n i : ℕ) (names : List (List ℕ)) (os : List ObjectDecl) (d : ObjectDecl) : Type 0 where
  free : list_any (bytes_eq d.name) names ≡ false
  finds : object_from n os d.name ≡ Some (n + i)
  good : is_good_object d.kind d ≡ true

object_there : (n i : ℕ) (names : List (List ℕ)) (os : List ObjectDecl) (d : ObjectDecl) → are_good_objects names os ≡ true → slice_get os i ≡ Some d
    → IsObject n i names os d
object_there n i names [] d e s = absurd (omega (arith, slice_get_within [] i d s))
object_there n zero names (o ∷ os) d e s =
    let same : d ≡ o = cc in
    let there : n ≡ n + zero = omega arith in
    let front = and_parts (is_good_object o.kind o) _ (and_parts _ _ e).0 in
    record {
      free = rw same (not-true _ front.1);
      finds = ap (λ b. if b then Some n else object_from (n + 1) os d.name) (word_same d.name o.name (ap (λ x. x.name) same)) ∙ ap Some there;
      good = rw same front.0;
    }
object_there n (suc i) names (o ∷ os) d e s =
    let there : n + 1 + i ≡ n + suc i = omega arith in
    let h = object_there (n + 1) i (o.name ∷ names) os d (and_parts _ _ e).1 s in
    let other = or_parts (bytes_eq d.name o.name) (list_any (bytes_eq d.name) names) h.free in
    record { free = other.1; finds = rw (other.0, h.finds, there); good = h.good }

-- widths are widths
all_wide : (ws : List ℕ) → are_widths ws ≡ true → list_all is_width ws ≡ true
all_wide ws e = (and_parts _ _ (and_parts _ _ e).0).1

-- the values of an object have widths
pub good_values : (k : Kind) (d : ObjectDecl) → is_good_object k d ≡ true → list_all is_width d.values ≡ true
good_values Table d e = all_wide d.values (and_parts (are_widths d.keys) _ (and_parts _ _ (and_parts _ _ (and_parts _ _ e).0).0).0).1
good_values Map d e = all_wide d.values (and_parts (are_widths d.keys) _ (and_parts _ _ (and_parts _ _ (and_parts _ _ e).0).0).0).1
good_values Vector d e = all_wide d.values (and_parts (same_widths d.keys (32 ∷ [])) _ (and_parts _ _ (and_parts _ _ (and_parts _ _ e).0).0).0).1
good_values Int d e =
    let w = slice_index d.values 0 in
    let p = and_parts (length d.keys == 0 && same_widths d.values (w ∷ [])) (is_width w) (and_parts _ _ (and_parts _ _ (and_parts _ _ e).0).0).0 in
    ap (list_all is_width) (same_list d.values (w ∷ []) (and_parts _ _ p.0).1) ∙ and_from (is_width w) true p.1 refl

-- keys that fit an object fit one that is there
object_with : (o : Option ObjectDecl) (ws : List ℕ) → fits_keys o ws ≡ true → (d : ObjectDecl) × (o ≡ Some d)
object_with None ws e = absurd (false≢true e)
object_with (Some d) ws e = (d, refl)

values_with : (o : Option ObjectDecl) (vs : List ℕ) → fits_values o vs ≡ true → vs ≡ values_of o
values_with None vs e = absurd (false≢true e)
values_with (Some d) vs e = same_list vs d.values e

-- the object of a statement
record IsUsed (m : Tree) (o : ℕ) : Type 0 where
  finds : object_from 0 m.objects (object_name m o) ≡ Some o
  widths : list_all is_width (values_of (slice_get m.objects o)) ≡ true

object_used : (m : Tree) (o : ℕ) (ws : List ℕ) → are_good_objects [] m.objects ≡ true → fits_keys (slice_get m.objects o) ws ≡ true → IsUsed m o
object_used m o ws good e =
    let d = object_with (slice_get m.objects o) ws e in
    let h = object_there 0 o [] m.objects d.0 good d.1 in
    let there : 0 + o ≡ o = omega arith in
    record {
      finds = ap (λ x. object_from 0 m.objects (name_of_object x)) d.1 ∙ h.finds ∙ ap Some there;
      widths = ap (λ x. list_all is_width (values_of x)) d.1 ∙ good_values d.0.kind d.0 h.good;
    }

-- ## Locals

length_taken : (ls : List Local) (n : ℕ) → n ≤ length ls → length (take n ls) ≡ n
length_taken ls n le = simp length-take (omega arith)

-- what is declared once the first n locals of the middlebox are
abbrev pub env_at : Tree → ℕ → List Known → Env
env_at m n scope = record { objects = m.objects; locals = take n m.locals; scope = scope }

-- numbers that are counted are those that the names get
numbers_counted : (n : ℕ) (xs : List ℕ) (name : ℕ → List ℕ) → counted_from n xs ≡ true → numbers_from n (map name xs) ≡ xs
numbers_counted n [] name e = refl
numbers_counted n (x ∷ xs) name e =
    let p = and_parts _ _ e in
    ap₂ (λ a b. a ∷ b) (sym (eqb-true x n p.0)) (numbers_counted (n + 1) xs name p.1)

-- the local at a place, as it is declared there
record IsDeclared (m : Tree) (numbers : List ℕ) (n x : ℕ) (v : ℕ) (scope : List Known) : Type 0 where
  number : length (take n m.locals) ≡ x
  later : List Known
  made : declared (env_at m n scope) (local_name m x) v ≡ Some (env_at m (n + 1) later)
  reads : Reads m (x ∷ numbers) later

one_declared : (m : Tree) (numbers : List ℕ) (n x v : ℕ) (scope : List Known) → Reads m numbers scope → n < length m.locals → x ≡ n
    → (not (list_any (bytes_eq (local_name m x)) (object_names m)) && not (list_any (λ y. bytes_eq (local_name m x) (local_name m y)) numbers)) ≡ true
    → slice_index (local_widths m) x ≡ v → is_width v ≡ true → IsDeclared m numbers n x v scope
one_declared m numbers n x v scope h lt e fresh width good =
    let there = get_within m.locals n lt in
    let l : Local = there.0 in
    let stands : slice_get m.locals x ≡ Some l = ap (slice_get m.locals) e ∙ there.1 in
    let name_is : local_name m x ≡ l.name = ap name_of_local stands in
    let width_is : v ≡ l.width = sym width ∙ width_at m.locals x l stands in
    let number_is : length (take n m.locals) ≡ x = length_taken m.locals n (omega arith) ∙ sym e in
    let p = and_parts (not (list_any (bytes_eq (local_name m x)) (object_names m))) _ fresh in
    let not_there : list_any (λ y. bytes_eq (local_name m x) (local_name m y)) numbers ≡ false = not-true _ p.1 in
    let later : List Known = scope ++ record { number = x; decl = l } ∷ [] in
    record {
      number = number_is;
      later = later;
      made = rw (p.0, h.free (local_name m x) not_there, good, name_is, width_is, number_is)
          (ap (λ ls. Some (record { objects = m.objects; locals = ls; scope = later })) (sym (take_next m.locals n l there.1)));
      reads = reads_pushed m numbers scope x l stands (ap is_width (sym width_is) ∙ good)
          (ap (λ w. list_any (λ y. bytes_eq w (local_name m y)) numbers) (sym name_is) ∙ not_there) h;
    }

-- a local that a statement declares alone
sole_declared : (m : Tree) (numbers : List ℕ) (n x v : ℕ) (scope : List Known) → Reads m numbers scope → n + 1 ≤ length m.locals
    → counted_from n (x ∷ []) ≡ true → are_fresh m numbers (x ∷ []) ≡ true → (slice_index (local_widths m) x == v) ≡ true → is_width v ≡ true
    → IsDeclared m numbers n x v scope
sole_declared m numbers n x v scope h le counted fresh width good =
    let within : n < length m.locals = omega arith in
    one_declared m numbers n x v scope h within (eqb-true x n (and_parts _ _ counted).0) (and_parts _ _ fresh).0 (eqb-true _ v width) good

-- locals that are counted from a place on, as they are declared there
record AreDeclared (m : Tree) (numbers : List ℕ) (n : ℕ) (xs vs : List ℕ) (scope : List Known) : Type 0 where
  later : List Known
  made : all_declared (env_at m n scope) (map (local_name m) xs) vs ≡ Some (env_at m (n + length xs) later)
  reads : Reads m (xs ++ numbers) later

more_declared : (m : Tree) (numbers : List ℕ) (n x v : ℕ) (xs vs : List ℕ) (scope : List Known) → (d : IsDeclared m numbers n x v scope)
    → AreDeclared m (x ∷ numbers) (n + 1) xs vs d.later → AreDeclared m numbers n (x ∷ xs) (v ∷ vs) scope
more_declared m numbers n x v xs vs scope d h =
    let there : n + 1 + length xs ≡ n + suc (length xs) = omega arith in
    record {
      later = h.later;
      made = rw (d.made, h.made, there);
      reads = reads_moved m (xs ++ x ∷ numbers) (x ∷ (xs ++ numbers)) h.later (λ p. any_moved p xs x numbers) h.reads;
    }

are_declared : (m : Tree) (xs vs numbers : List ℕ) (n : ℕ) (scope : List Known) → Reads m numbers scope → n + length xs ≤ length m.locals
    → counted_from n xs ≡ true → are_fresh m numbers xs ≡ true → map (slice_index (local_widths m)) xs ≡ vs → list_all is_width vs ≡ true
    → AreDeclared m numbers n xs vs scope
are_declared m [] [] numbers n scope h le counted fresh widths good =
    let same : n ≡ n + 0 = omega arith in
    record { later = scope; made = ap (λ i. Some (env_at m i scope)) same; reads = h }
are_declared m [] (v ∷ vs) numbers n scope h le counted fresh widths good = cc
are_declared m (x ∷ xs) [] numbers n scope h le counted fresh widths good = cc
are_declared m (x ∷ xs) (v ∷ vs) numbers n scope h le counted fresh widths good =
    let width : slice_index (local_widths m) x ≡ v = cc (widths) in
    let others : map (slice_index (local_widths m)) xs ≡ vs = cc (widths) in
    let within : n < length m.locals = omega arith in
    let behind : n + 1 + length xs ≤ length m.locals = omega arith in
    let c = and_parts _ _ counted in
    let f = and_parts _ _ fresh in
    let g = and_parts _ _ good in
    let d = one_declared m numbers n x v scope h within (eqb-true x n c.0) f.0 width g.0 in
    more_declared m numbers n x v xs vs scope d (are_declared m xs vs (x ∷ numbers) (n + 1) d.later d.reads behind c.1 f.1 others g.1)

-- ## Statements

-- the statement is made of itself where the next local has number n
record IsRemade (m : Tree) (numbers : List ℕ) (n : ℕ) (scope : List Known) (s : StmtTree) : Type 0 where
  later : List Known
  made : made_stmt (env_at m n scope) (named_stmt m s) ≡ Some (record { tree = s; env = env_at m (n + declared_in s) later })
  reads : Reads m (binds s ++ numbers) later

-- and so is the body
abbrev pub IsBodyRemade : Tree → ℕ → List Known → BodyTree → Type 0
IsBodyRemade m n scope b = made_body (env_at m n scope) (named_body m b) ≡ Some (record { tree = b; locals = take (n + declared_by b) m.locals })

-- where there is room for its locals, and it keeps the rules
abbrev IsRead : Tree → List ℕ → ℕ → List Known → StmtTree → Type 0
IsRead m numbers n scope s = n + declared_in s ≤ length m.locals → is_good_stmt m numbers n s ≡ true → IsRemade m numbers n scope s

abbrev IsBodyRead : Tree → List ℕ → ℕ → List Known → BodyTree → Type 0
IsBodyRead m numbers n scope b = n + declared_by b ≤ length m.locals → is_good_body m numbers n b ≡ true → IsBodyRemade m n scope b

-- a statement that declares nothing
nothing_more : (m : Tree) (n : ℕ) (scope : List Known) (s : StmtTree)
    → ◌≡◌ {A = Option Made} (Some (record { tree = s; env = env_at m n scope })) (Some (record { tree = s; env = env_at m (n + 0) scope }))
nothing_more m n scope s =
    let same : n + 0 ≡ n = omega arith in
    rw same

module _ (m : Tree) (numbers : List ℕ) (n : ℕ) (scope : List Known) (h : Reads m numbers scope) where
  let_local_is : (x : ℕ) (value : ExprTree) → is_good_expr (local_widths m) numbers value ≡ true
      → IsDeclared m numbers n x (width_of (local_widths m) value) scope → IsRemade m numbers n scope (trees.let_local x value)
  let_local_is x value good d = record { later = d.later; made = rw (expr_read m numbers scope h value good, d.made, d.number); reads = d.reads }

  let_local_read : (x : ℕ) (value : ExprTree) → IsRead m numbers n scope (trees.let_local x value)
  let_local_read x value le e =
      let p = and_parts _ _ e in
      let q = and_parts _ _ p.0 in
      let r = and_parts _ _ q.0 in
      let_local_is x value r.0 (sole_declared m numbers n x _ scope h le q.1 p.1 r.1 (expr_wide m numbers scope h value r.0))

  assign_is : (x : ℕ) (value : ExprTree) → is_good_expr (local_widths m) numbers value ≡ true → (k : IsKnown m scope x)
      → (k.decl.width == width_of (local_widths m) value) ≡ true → IsRemade m numbers n scope (trees.assign x value)
  assign_is x value good k fits =
      record {
        later = scope;
        made = rw (expr_read m numbers scope h value good, k.stands, k.finds, fits) (nothing_more m n scope (trees.assign x value));
        reads = h;
      }

  assign_read : (x : ℕ) (value : ExprTree) → IsRead m numbers n scope (trees.assign x value)
  assign_read x value le e =
      let p = and_parts _ _ e in
      let q = and_parts _ _ p.0 in
      let k = h.known x q.1 in
      assign_is x value q.0 k (ap (λ w. w == width_of (local_widths m) value) (sym (width_at m.locals x k.decl k.stands)) ∙ p.1)

  set_field_read : (f : Field) (value : ExprTree) → IsRead m numbers n scope (trees.set_field f value)
  set_field_read f value le e =
      let good = is_good_expr (local_widths m) numbers value in
      let p = and_parts (good && (row f).writable) (width_of (local_widths m) value == (row f).width) e in
      let q = and_parts good (row f).writable p.0 in
      record { later = scope; made = rw (expr_read m numbers scope h value q.0, q.1, p.1) (nothing_more m n scope (trees.set_field f value)); reads = h }

  send_read : (port : ExprTree) → IsRead m numbers n scope (trees.send port)
  send_read port le e =
      let p = and_parts (is_good_expr (local_widths m) numbers port) (width_of (local_widths m) port == 8) e in
      record { later = scope; made = rw (expr_read m numbers scope h port p.0, p.1) (nothing_more m n scope (trees.send port)); reads = h }

  look_is : (found : ℕ) (into : List ℕ) (object : ℕ) (keys : Exprs) → IsUsed m object → are_good_exprs (local_widths m) numbers keys ≡ true
      → fits_keys (slice_get m.objects object) (widths_of (local_widths m) keys) ≡ true → length (take n m.locals) ≡ found → counted_from (found + 1) into ≡ true
      → AreDeclared m numbers n (found ∷ into) (1 ∷ values_of (slice_get m.objects object)) scope → IsRemade m numbers n scope (trees.look found into object keys)
  look_is found into object keys used good fit number counted d = record {
    later = d.later;
    made = rw (used.finds, exprs_read m numbers scope h keys good, fit, d.made, number, numbers_counted (found + 1) into (local_name m) counted);
    reads = d.reads;
  }

  look_read : are_good_objects [] m.objects ≡ true → (found : ℕ) (into : List ℕ) (object : ℕ) (keys : Exprs)
      → IsRead m numbers n scope (trees.look found into object keys)
  look_read good found into object keys le e =
      let widths = local_widths m in
      let here : length (take n m.locals) ≡ n = length_taken m.locals n (omega arith) in
      let p = and_parts _ _ e in
      let q = and_parts _ _ p.0 in
      let r = and_parts _ _ q.0 in
      let s = and_parts _ _ r.0 in
      let t = and_parts _ _ s.0 in
      let used = object_used m object (widths_of widths keys) good t.1 in
      let bound_widths : map (slice_index widths) (found ∷ into) ≡ 1 ∷ values_of (slice_get m.objects object) =
      ap₂ (λ a b. a ∷ b) (eqb-true (slice_index widths found) 1 r.1) (values_with (slice_get m.objects object) (map (slice_index widths) into) s.1) in
      let count = and_parts (found == n) (counted_from (n + 1) into) q.1 in
      let found_is : found ≡ n = eqb-true found n count.0 in
      look_is found into object keys used t.0 t.1 (here ∙ sym found_is) (ap (λ i. counted_from (i + 1) into) found_is ∙ count.1)
      (are_declared m (found ∷ into) (1 ∷ values_of (slice_get m.objects object)) numbers n scope h le q.1 p.1 bound_widths used.widths)

  put_is : (ok object : ℕ) (keys values : Exprs) → IsUsed m object → are_good_exprs (local_widths m) numbers keys ≡ true
      → are_good_exprs (local_widths m) numbers values ≡ true
      → can_put (slice_get m.objects object) ≡ true → fits_keys (slice_get m.objects object) (widths_of (local_widths m) keys) ≡ true
      → fits_values (slice_get m.objects object) (widths_of (local_widths m) values) ≡ true → IsDeclared m numbers n ok 1 scope
      → IsRemade m numbers n scope (trees.put ok object keys values)
  put_is ok object keys values used keys_good values_good may keys_fit values_fit d = record {
    later = d.later;
    made = rw (
      used.finds,
      exprs_read m numbers scope h keys keys_good,
      exprs_read m numbers scope h values values_good,
      may,
      keys_fit,
      values_fit,
      d.made,
      d.number,
    );
    reads = d.reads;
  }

  put_read : are_good_objects [] m.objects ≡ true → (ok object : ℕ) (keys values : Exprs) → IsRead m numbers n scope (trees.put ok object keys values)
  put_read good ok object keys values le e =
      let p = and_parts _ _ e in
      let q = and_parts _ _ p.0 in
      let r = and_parts _ _ q.0 in
      let s = and_parts _ _ r.0 in
      let t = and_parts _ _ s.0 in
      let u = and_parts _ _ t.0 in
      let v = and_parts _ _ u.0 in
      let used = object_used m object (widths_of (local_widths m) keys) good t.1 in
      put_is ok object keys values used v.0 v.1 u.1 t.1 s.1 (sole_declared m numbers n ok 1 scope h le q.1 p.1 r.1 refl)

  del_is : (was object : ℕ) (keys : Exprs) → IsUsed m object → are_good_exprs (local_widths m) numbers keys ≡ true → can_del (slice_get m.objects object) ≡ true
      → fits_keys (slice_get m.objects object) (widths_of (local_widths m) keys) ≡ true → IsDeclared m numbers n was 1 scope
      → IsRemade m numbers n scope (trees.del was object keys)
  del_is was object keys used keys_good may keys_fit d = record {
    later = d.later;
    made = rw (used.finds, exprs_read m numbers scope h keys keys_good, may, keys_fit, d.made, d.number);
    reads = d.reads;
  }

  del_read : are_good_objects [] m.objects ≡ true → (was object : ℕ) (keys : Exprs) → IsRead m numbers n scope (trees.del was object keys)
  del_read good was object keys le e =
      let p = and_parts _ _ e in
      let q = and_parts _ _ p.0 in
      let r = and_parts _ _ q.0 in
      let s = and_parts _ _ r.0 in
      let t = and_parts _ _ s.0 in
      let used = object_used m object (widths_of (local_widths m) keys) good s.1 in
      del_is was object keys used t.0 t.1 s.1 (sole_declared m numbers n was 1 scope h le q.1 p.1 r.1 refl)

  choose_read : (cond : ExprTree) (first second : BodyTree) → IsBodyRead m numbers n scope first → IsBodyRead m numbers (n + declared_by first) scope second
      → IsRead m numbers n scope (trees.choose cond first second)
  choose_read cond first second a b le e =
      let first_le : n + declared_by first ≤ length m.locals = omega arith in
      let second_le : n + declared_by first + declared_by second ≤ length m.locals = omega arith in
      let sum : n + declared_by first + declared_by second ≡ n + (declared_by first + declared_by second) = omega arith in
      let good = is_good_expr (local_widths m) numbers cond in
      let one = width_of (local_widths m) cond == 1 in
      let p = and_parts (good && one && is_good_body m numbers n first) (is_good_body m numbers (n + declared_by first) second) e in
      let q = and_parts (good && one) (is_good_body m numbers n first) p.0 in
      let r = and_parts good one q.0 in
      record { later = scope; made = rw (expr_read m numbers scope h cond r.0, r.1, a first_le q.1, b second_le p.1, sum); reads = h }

  repeat_is : (index count : ℕ) (body : BodyTree) → is_count count ≡ true → not (any_repeats body) ≡ true → not (ends_always body) ≡ true
      → (d : IsDeclared m numbers n index 32 scope) → IsBodyRemade m (n + 1) d.later body → IsRemade m numbers n scope (trees.repeat index count body)
  repeat_is index count body allowed no_repeat goes_on d b =
      let sum : n + 1 + declared_by body ≡ n + suc (declared_by body) = omega arith in
      record { later = scope; made = rw (allowed, d.made, b, no_repeat, goes_on, d.number, sum); reads = h }

  repeat_read : (index count : ℕ) (body : BodyTree) → ((later : List Known) → Reads m (index ∷ numbers) later → IsBodyRead m (index ∷ numbers) (n + 1) later body)
      → IsRead m numbers n scope (trees.repeat index count body)
  repeat_read index count body b le e =
      let first_le : n + 1 ≤ length m.locals = omega arith in
      let body_le : n + 1 + declared_by body ≤ length m.locals = omega arith in
      let p = and_parts _ _ e in
      let q = and_parts _ _ p.0 in
      let r = and_parts _ _ q.0 in
      let s = and_parts _ _ r.0 in
      let t = and_parts _ _ s.0 in
      let u = and_parts _ _ t.0 in
      let d = sole_declared m numbers n index 32 scope h first_le r.1 q.1 s.1 refl in
      repeat_is index count body u.0 u.1 t.1 d (b d.later d.reads body_le p.1)

  more_is : (s : StmtTree) (b : BodyTree) → (not (always_ends s) || is_empty b) ≡ true → (g : IsRemade m numbers n scope s)
      → IsBodyRemade m (n + declared_in s) g.later b → IsBodyRemade m n scope (trees.stmt s b)
  more_is s b may g rest =
      let sum : n + declared_in s + declared_by b ≡ n + (declared_in s + declared_by b) = omega arith in
      rw (g.made, empty_same m b, may, rest, sum)

  more_read : (s : StmtTree) (b : BodyTree) → IsRead m numbers n scope s
      → ((later : List Known) → Reads m (binds s ++ numbers) later → IsBodyRead m (binds s ++ numbers) (n + declared_in s) later b)
      → IsBodyRead m numbers n scope (trees.stmt s b)
  more_read s b first rest le e =
      let first_le : n + declared_in s ≤ length m.locals = omega arith in
      let rest_le : n + declared_in s + declared_by b ≤ length m.locals = omega arith in
      let p = and_parts _ _ e in
      let q = and_parts _ _ p.0 in
      let g = first first_le q.0 in
      more_is s b q.1 g (rest g.later g.reads rest_le p.1)

mutual
  stmt_read : (m : Tree) → are_good_objects [] m.objects ≡ true → (s : StmtTree) (numbers : List ℕ) (n : ℕ) (scope : List Known) → Reads m numbers scope
      → IsRead m numbers n scope s
  stmt_read m good (trees.let_local x value) numbers n scope h = let_local_read m numbers n scope h x value
  stmt_read m good (trees.assign x value) numbers n scope h = assign_read m numbers n scope h x value
  stmt_read m good (trees.set_field f value) numbers n scope h = set_field_read m numbers n scope h f value
  stmt_read m good (trees.look found into object keys) numbers n scope h = look_read m numbers n scope h good found into object keys
  stmt_read m good (trees.put ok object keys values) numbers n scope h = put_read m numbers n scope h good ok object keys values
  stmt_read m good (trees.del was object keys) numbers n scope h = del_read m numbers n scope h good was object keys
  stmt_read m good (trees.choose cond first second) numbers n scope h =
      choose_read m numbers n scope h cond first second (body_read m good first numbers n scope h)
      (body_read m good second numbers (n + declared_by first) scope h)
  stmt_read m good (trees.repeat index count body) numbers n scope h =
      repeat_read m numbers n scope h index count body (λ later k. body_read m good body (index ∷ numbers) (n + 1) later k)
  stmt_read m good (trees.send port) numbers n scope h = send_read m numbers n scope h port
  stmt_read m good trees.drop numbers n scope h = λ le e. record { later = scope; made = nothing_more m n scope trees.drop; reads = h }

  pub body_read : (m : Tree) → are_good_objects [] m.objects ≡ true → (b : BodyTree) (numbers : List ℕ) (n : ℕ) (scope : List Known) → Reads m numbers scope
      → IsBodyRead m numbers n scope b
  body_read m good trees.done numbers n scope h = λ le e.
      let same : n + 0 ≡ n = omega arith in
      rw same
  body_read m good (trees.stmt s b) numbers n scope h =
      more_read m numbers n scope h s b (stmt_read m good s numbers n scope h)
      (λ later k. body_read m good b (binds s ++ numbers) (n + declared_in s) later k)
