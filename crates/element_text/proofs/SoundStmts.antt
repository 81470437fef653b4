-- Statements with numbers keep the rules, and with their names put back they are those that they were made of.
use Rattle.std.proofs.Common.{◌≡◌, ℕ, suc, ◌+◌, true, not, ◌&&◌, ◌||◌, List, [], ◌∷◌, ◌++◌, length, map, Option, Some, None, IfSome, slice_get, slice_index, ◌==◌, refl, sym, ap, subst, ◌∙◌, arith, length-append}
use Rattle.std.specs.List.{list_any, AllByRecursion}
use Rattle.std.specs.Str.{bytes_eq}
use Rattle.std.proofs.lemmas.Bool.{eqb-true, eq-eqb, and_parts, false≢true}
use Rattle.std.proofs.lemmas.Option.{IfSome_then}
use Rattle.packet_fields.specs.declared.field.Field.{Field}
use Rattle.packet_fields.specs.Table.{row}
use Rattle.state_store.specs.declared.object.ObjectDecl.{ObjectDecl}
use Rattle.element_lang.specs.declared.tree.Local.{Local}
use Rattle.element_lang.specs.Tree as trees
use Rattle.element_lang.specs.Tree.{ExprTree, StmtTree, Tree}
use Rattle.element_lang.specs.Token.{IsName}
use Rattle.element_lang.specs.Widths.{local_widths, width_of}
use Rattle.element_lang.specs.Rules.{is_width, fits_keys, fits_values, can_put, can_del, counted_from, are_fresh, binds, declared_in, declared_by, always_ends, ends_always, any_repeats, is_empty, is_count, is_good_stmt, is_good_body}
use Rattle.element_lang.specs.Surface.{SurfaceExpr, SurfaceExprs, SurfaceStmt, SurfaceBody, let_local, assign, set_field, look, put, del, choose, repeat, send, drop, done, stmt, name_of_local, local_name, named_stmt, named_body, unplaced_stmt, unplaced_body}
use Rattle.element_text.specs.Names.{HasStmtNames, HasBodyNames}
use Rattle.element_text.specs.Resolve.{Known, local_in, Env, typed_expr, typed_exprs, is_free, with_local, declared, all_declared, numbers_from, values_of, Made, MadeBody, with_locals, is_done, made_condition, made_stmt, made_body}
use Rattle.element_text.proofs.Optional.{Gives, gives, gives_bound, gives_when, gives_tested, given}
use Rattle.element_text.proofs.NamesInScope.{Keeps, keeps_all, keeps_on, keeps_pushed, width_at, any_moved, none_from, Within, within_same, within_both, within_locals, object_found, empty_same}
use Rattle.element_text.proofs.Operators.{lists_same}
use Rattle.element_text.proofs.SoundExprs.{IsFound, Fits, fits_pushed, fits_moved, IsTyped, AreTyped, expr_typed, exprs_typed}
use Rattle.lemmas.proofs.Lists.{get_pushed, each_pushed}

-- ## Names and expressions

-- known in every middlebox whose locals in scope are these
record Always {A : Type 0} (scope : List Known) (P : Tree → List ℕ → A → Type 0) (x : A) : Type 0 where
  at : (m : Tree) (numbers : List ℕ) → Fits m numbers scope → P m numbers x

always : {A : Type 0} (scope : List Known) (P : Tree → List ℕ → A → Type 0) (o : Option A)
    → ((m : Tree) (numbers : List ℕ) → Fits m numbers scope → IfSome o (P m numbers)) → Gives o (Always scope P)
always scope P None h = record { known = tt }
always scope P (Some x) h = record { known = record { at = h } }

always_found : (scope : List Known) (word : List ℕ) → Gives (local_in scope word) (Always scope (λ m numbers. IsFound m numbers word))
always_found scope word = always scope (λ m numbers. IsFound m numbers word) (local_in scope word) (λ m numbers f. f.found word)

always_typed : (scope : List Known) (e : SurfaceExpr) → Gives (typed_expr scope e) (Always scope (λ m numbers. IsTyped m numbers e))
always_typed scope e = always scope (λ m numbers. IsTyped m numbers e) (typed_expr scope e) (λ m numbers f. (expr_typed m numbers scope f e).known)

all_always_typed : (scope : List Known) (es : SurfaceExprs) → Gives (typed_exprs scope es) (Always scope (λ m numbers. AreTyped m numbers es))
all_always_typed scope es = always scope (λ m numbers. AreTyped m numbers es) (typed_exprs scope es) (λ m numbers f. (exprs_typed m numbers scope f es).known)

-- ## Locals that are declared

-- what holds of them in a middlebox
record Declared (m : Tree) (numbers : List ℕ) (n : ℕ) (ws : List (List ℕ)) (vs : List ℕ) (last : Env) : Type 0 where
  named : map (local_name m) (numbers_from n ws) ≡ ws
  widths : map (slice_index (local_widths m)) (numbers_from n ws) ≡ vs
  counted : counted_from n (numbers_from n ws) ≡ true
  fresh : are_fresh m numbers (numbers_from n ws) ≡ true
  fits : Fits m (numbers_from n ws ++ numbers) last.scope

-- locals whose names can be written
abbrev pub Named : List Local → Type 0
Named ls = AllByRecursion (λ (l : Local). IsName l.name) ls

-- names that are declared with these widths, from number n on
record Declares (env : Env) (n : ℕ) (ws : List (List ℕ)) (vs : List ℕ) (last : Env) : Type 0 where
  keeps : Keeps env.locals last.locals
  count : length last.locals ≡ n + length ws
  within : Within env last
  names : AllByRecursion IsName ws → Named env.locals → Named last.locals
  holds : (m : Tree) → Keeps last.locals m.locals → m.objects ≡ env.objects → (numbers : List ℕ) → Fits m numbers env.scope → Declared m numbers n ws vs last

declares_none : (env : Env) (n : ℕ) → length env.locals ≡ n → Declares env n [] [] env
declares_none env n e = record {
  keeps = keeps_all env.locals;
  count = omega arith;
  within = within_same env;
  names = λ w k. k;
  holds = λ m k o numbers f. record { named = refl; widths = refl; counted = refl; fresh = refl; fits = f };
}

-- one that is free, and then others
declares_more : (env : Env) (n : ℕ) (l : Local) (ws : List (List ℕ)) (vs : List ℕ) (last : Env) → length env.locals ≡ n → is_free env l.name ≡ true
    → Declares (with_local env l) (n + 1) ws vs last → Declares env n (l.name ∷ ws) (l.width ∷ vs) last
declares_more env n l ws vs last e free d = record {
  keeps = keeps_on (keeps_pushed env.locals l) d.keeps;
  count = let c = d.count in omega arith;
  within = within_both {a = env} {b = with_local env l}
      (record { objects = refl; more = record { number = length env.locals; decl = l } ∷ []; scope = refl }) d.within;
  names = λ w k. d.names w.1 (each_pushed (λ (l : Local). IsName l.name) env.locals l k w.0);
  holds = λ m k o numbers f.
      let known : slice_get m.locals (length env.locals) ≡ Some l = k.at (length env.locals) l (d.keeps.at (length env.locals) l (get_pushed env.locals l)) in
      let stands : slice_get m.locals n ≡ Some l = ap (slice_get m.locals) (sym e) ∙ known in
      let name_is : local_name m n ≡ l.name = ap name_of_local stands in
      let P : ℕ → Type 0 = λ i. Fits m (i ∷ numbers) (with_local env l).scope in
      let pushed : Fits m (n ∷ numbers) (with_local env l).scope =
      subst P e (fits_pushed m numbers env.scope (record { number = length env.locals; decl = l }) known f) in
      let h = d.holds m k o (n ∷ numbers) pushed in
      let parts = and_parts (not (list_any (bytes_eq l.name) (map (λ o. o.name) env.objects))) _ free in
      let no_local = f.free l.name (none_from (local_in env.scope l.name) parts.1) in
      let own : n == n ≡ true = eq-eqb n n refl in
      record {
        named = rw (name_is, h.named);
        widths = rw (width_at m.locals n l stands, h.widths);
        counted = rw (own, h.counted);
        fresh = rw (name_is, o, parts.0, no_local, h.fresh);
        fits = fits_moved m (numbers_from (n + 1) ws ++ n ∷ numbers) (n ∷ (numbers_from (n + 1) ws ++ numbers)) last.scope
            (λ p. any_moved p (numbers_from (n + 1) ws) n numbers) h.fits;
      };
}

all_declares : (ws : List (List ℕ)) (vs : List ℕ) (env : Env) (n : ℕ) → length env.locals ≡ n → Gives (all_declared env ws vs) (Declares env n ws vs)
all_declares [] [] env n e = record { known = declares_none env n e }
all_declares [] (v ∷ vs) env n e = record { known = tt }
all_declares (w ∷ ws) [] env n e = record { known = tt }
all_declares (w ∷ ws) (v ∷ vs) env n e =
    let l : Local = record { name = w; width = v } in
    let more : length (env.locals ++ l ∷ []) ≡ n + 1 = omega (arith, length-append env.locals (l ∷ [])) in
    gives_tested (is_free env w && is_width v) (with_local env l) (λ next. all_declared next ws vs) (λ t.
    let h = (all_declares ws vs (with_local env l) (n + 1) more).known in
    gives (all_declared (with_local env l) ws vs) (Declares env n (w ∷ ws) (v ∷ vs))
    (IfSome_then (all_declared (with_local env l) ws vs) h (λ last d. declares_more env n l ws vs last e (and_parts (is_free env w) _ t).0 d)))

one_declares : (env : Env) (w : List ℕ) (v : ℕ) → Gives (declared env w v) (Declares env (length env.locals) (w ∷ []) (v ∷ []))
one_declares env w v =
    let l : Local = record { name = w; width = v } in
    gives_when (is_free env w && is_width v) (λ t. gives (Some (with_local env l)) (Declares env (length env.locals) (w ∷ []) (v ∷ []))
    (declares_more env (length env.locals) l [] [] (with_local env l) refl (and_parts (is_free env w) _ t).0
    (declares_none (with_local env l) (length env.locals + 1) (length-append env.locals (l ∷ [])))))

length_numbers : (n : ℕ) (ws : List (List ℕ)) → length (numbers_from n ws) ≡ length ws
length_numbers n [] = refl
length_numbers n (w ∷ ws) = ap suc (length_numbers (n + 1) ws)

-- ## Statements

-- what holds of a statement in a middlebox, where the next local has this number
record StmtHolds (m : Tree) (numbers : List ℕ) (next : ℕ) (s : SurfaceStmt) (made : Made) : Type 0 where
  named : named_stmt m made.tree ≡ unplaced_stmt s
  good : is_good_stmt m numbers next made.tree ≡ true
  fits : Fits m (binds made.tree ++ numbers) made.env.scope

pub record IsMade (env : Env) (s : SurfaceStmt) (made : Made) : Type 0 where
  keeps : Keeps env.locals made.env.locals
  count : length made.env.locals ≡ length env.locals + declared_in made.tree
  pub within : Within env made.env
  names : HasStmtNames s → Named env.locals → Named made.env.locals
  holds : (m : Tree) → Keeps made.env.locals m.locals → m.objects ≡ env.objects → (numbers : List ℕ) → Fits m numbers env.scope
      → StmtHolds m numbers (length env.locals) s made

pub record BodyHolds (m : Tree) (numbers : List ℕ) (next : ℕ) (b : SurfaceBody) (made : MadeBody) : Type 0 where
  pub named : named_body m made.tree ≡ unplaced_body b
  pub good : is_good_body m numbers next made.tree ≡ true

pub record IsBodyMade (env : Env) (b : SurfaceBody) (made : MadeBody) : Type 0 where
  pub keeps : Keeps env.locals made.locals
  pub count : length made.locals ≡ length env.locals + declared_by made.tree
  pub names : HasBodyNames b → Named env.locals → Named made.locals
  pub holds : (m : Tree) → Keeps made.locals m.locals → m.objects ≡ env.objects → (numbers : List ℕ) → Fits m numbers env.scope
      → BodyHolds m numbers (length env.locals) b made

abbrev StmtMade : Env → SurfaceStmt → Type 0
StmtMade env s = Gives (made_stmt env s) (IsMade env s)

abbrev BodyMade : Env → SurfaceBody → Type 0
BodyMade env b = Gives (made_body env b) (IsBodyMade env b)

is_made : {env : Env} {s : SurfaceStmt} {made : Made} → IsMade env s made → Gives (Some made) (IsMade env s)
is_made h = record { known = h }

-- a statement that declares these locals
made_with : (env : Env) (s : SurfaceStmt) (t : StmtTree) (ws : List (List ℕ)) (vs : List ℕ) (last : Env) → Declares env (length env.locals) ws vs last
    → binds t ≡ numbers_from (length env.locals) ws → declared_in t ≡ length ws → (HasStmtNames s → AllByRecursion IsName ws)
    → ((m : Tree) (numbers : List ℕ) → Fits m numbers env.scope → m.objects ≡ env.objects → Declared m numbers (length env.locals) ws vs last
    → (named_stmt m t ≡ unplaced_stmt s) × (is_good_stmt m numbers (length env.locals) t ≡ true))
    → Gives {A = Made} (Some (record { tree = t; env = last })) (IsMade env s)
made_with env s t ws vs last d bound counted named h = record {
  known = record {
    keeps = d.keeps;
    count = d.count ∙ ap (λ k. length env.locals + k) (sym counted);
    within = d.within;
    names = λ w k. d.names (named w) k;
    holds = λ m k same numbers fits.
        let g = d.holds m k same numbers fits in
        let both = h m numbers fits same g in
        record { named = both.0; good = both.1; fits = rw bound g.fits };
  };
}

-- one that declares none
made_here : (env : Env) (s : SurfaceStmt) (t : StmtTree) → binds t ≡ [] → declared_in t ≡ 0
    → ((m : Tree) (numbers : List ℕ) → Fits m numbers env.scope → (named_stmt m t ≡ unplaced_stmt s) × (is_good_stmt m numbers (length env.locals) t ≡ true))
    → Gives {A = Made} (Some (record { tree = t; env = env })) (IsMade env s)
made_here env s t bound counted h =
    made_with env s t [] [] env (declares_none env (length env.locals) refl) bound counted (λ w. tt) (λ m numbers fits same g. h m numbers fits)

let_local_made : (env : Env) (word : List ℕ) (value : SurfaceExpr) → StmtMade env (let_local word value)
let_local_made env word value =
    gives_bound (always_typed env.scope value) (λ v typed. gives_bound (one_declares env word v.width) (λ last d.
    let n = length env.locals in
    made_with env (let_local word value) (trees.let_local n v.tree) (word ∷ []) (v.width ∷ []) last d refl refl (λ w. (w, tt)) (λ m numbers fits same g.
    let t = typed.at m numbers fits in
    let word_is : local_name m n ≡ word = cc in
    let wide : slice_index (local_widths m) n ≡ width_of (local_widths m) v.tree = cc in
    let same_width = eq-eqb (slice_index (local_widths m) n) (width_of (local_widths m) v.tree) wide in
    (rw (word_is, t.named), rw (t.good, same_width, g.counted, g.fresh)))))

assign_made : (env : Env) (word : List ℕ) (value : SurfaceExpr) → StmtMade env (assign word value)
assign_made env word value =
    gives_bound (always_typed env.scope value) (λ v typed. gives_bound (always_found env.scope word) (λ k found. gives_when (k.decl.width == v.width) (λ e.
    made_here env (assign word value) (trees.assign k.number v.tree) refl refl (λ m numbers fits.
    let t = typed.at m numbers fits in
    let f = found.at m numbers fits in
    (rw (ap name_of_local f.stands, f.named, t.named), rw (t.good, f.among, width_at m.locals k.number k.decl f.stands, t.width, e))))))

set_field_made : (env : Env) (f : Field) (value : SurfaceExpr) → StmtMade env (set_field f value)
set_field_made env f value =
    gives_bound (always_typed env.scope value) (λ v typed. gives_when ((row f).writable && v.width == (row f).width) (λ e.
    made_here env (set_field f value) (trees.set_field f v.tree) refl refl (λ m numbers fits.
    let t = typed.at m numbers fits in
    let p = and_parts (row f).writable (v.width == (row f).width) e in
    (rw t.named, rw (t.good, p.0, t.width, p.1)))))

send_made : (env : Env) (port : SurfaceExpr) → StmtMade env (send port)
send_made env port =
    gives_bound (always_typed env.scope port) (λ p typed. gives_when (p.width == 8) (λ e.
    made_here env (send port) (trees.send p.tree) refl refl (λ m numbers fits. let t = typed.at m numbers fits in (rw t.named, rw (t.good, t.width, e)))))

-- the locals that are bound have the widths of the values
values_fit : (d : Option ObjectDecl) (ws vs : List ℕ) → fits_keys d ws ≡ true → vs ≡ values_of d → fits_values d vs ≡ true
values_fit None ws vs e same = absurd (false≢true e)
values_fit (Some d) ws vs e same = lists_same vs d.values same

look_made : (env : Env) (found : List ℕ) (into : List (List ℕ)) (object : List ℕ) (keys : SurfaceExprs) → StmtMade env (look found into object keys)
look_made env found into object keys =
    gives_bound (object_found env.objects object) (λ o is. gives_bound (all_always_typed env.scope keys) (λ ks typed.
    gives_when (fits_keys (slice_get env.objects o) ks.widths) (λ e.
    let n = length env.locals in
    let vs = values_of (slice_get env.objects o) in
    let bound = numbers_from (n + 1) into in
    gives_bound (all_declares (found ∷ into) (1 ∷ vs) env n refl) (λ last d.
    made_with env (look found into object keys) (trees.look n bound o ks.trees) (found ∷ into) (1 ∷ vs) last d
    refl (ap suc (length_numbers (n + 1) into)) (λ w. w) (λ m numbers fits same g.
    let t = typed.at m numbers fits in
    let widths = local_widths m in
    let fit = rw (← same) at e in
    let values_are : map (slice_index widths) bound ≡ vs = cc in
    let values_match = values_fit (slice_get m.objects o) ks.widths (map (slice_index widths) bound) fit (rw same values_are) in
    let one : slice_index widths n ≡ 1 = cc in
    let one_bit = eq-eqb (slice_index widths n) 1 one in
    let found_is : local_name m n ≡ found = cc in
    let into_is : map (local_name m) bound ≡ into = cc in
    (rw (found_is, into_is, t.named, same, is), rw (t.good, t.widths, fit, values_match, one_bit, g.counted, g.fresh)))))))

put_made : (env : Env) (ok object : List ℕ) (keys values : SurfaceExprs) → StmtMade env (put ok object keys values)
put_made env ok object keys values =
    gives_bound (object_found env.objects object) (λ o is. gives_bound (all_always_typed env.scope keys) (λ ks keys_typed.
    gives_bound (all_always_typed env.scope values) (λ vs values_typed.
    gives_when (can_put (slice_get env.objects o) && fits_keys (slice_get env.objects o) ks.widths && fits_values (slice_get env.objects o) vs.widths) (λ e.
    gives_bound (one_declares env ok 1) (λ last d.
    let n = length env.locals in
    made_with env (put ok object keys values) (trees.put n o ks.trees vs.trees) (ok ∷ []) (1 ∷ []) last d refl refl (λ w. (w, tt)) (λ m numbers fits same g.
    let t = keys_typed.at m numbers fits in
    let u = values_typed.at m numbers fits in
    let o_is = slice_get m.objects o in
    let p = and_parts (can_put o_is && fits_keys o_is ks.widths) (fits_values o_is vs.widths) (rw (← same) at e) in
    let q = and_parts (can_put o_is) (fits_keys o_is ks.widths) p.0 in
    let one : slice_index (local_widths m) n ≡ 1 = cc in
    let one_bit = eq-eqb (slice_index (local_widths m) n) 1 one in
    let ok_is : local_name m n ≡ ok = cc in
    (rw (ok_is, t.named, u.named, same, is), rw (t.good, u.good, q.0, t.widths, q.1, u.widths, p.1, one_bit, g.counted, g.fresh))))))))

del_made : (env : Env) (was object : List ℕ) (keys : SurfaceExprs) → StmtMade env (del was object keys)
del_made env was object keys =
    gives_bound (object_found env.objects object) (λ o is. gives_bound (all_always_typed env.scope keys) (λ ks typed.
    gives_when (can_del (slice_get env.objects o) && fits_keys (slice_get env.objects o) ks.widths) (λ e. gives_bound (one_declares env was 1) (λ last d.
    let n = length env.locals in
    made_with env (del was object keys) (trees.del n o ks.trees) (was ∷ []) (1 ∷ []) last d refl refl (λ w. (w, tt)) (λ m numbers fits same g.
    let t = typed.at m numbers fits in
    let p = and_parts (can_del (slice_get m.objects o)) (fits_keys (slice_get m.objects o) ks.widths) (rw (← same) at e) in
    let one : slice_index (local_widths m) n ≡ 1 = cc in
    let one_bit = eq-eqb (slice_index (local_widths m) n) 1 one in
    let was_is : local_name m n ≡ was = cc in
    (rw (was_is, t.named, same, is), rw (t.good, p.0, t.widths, p.1, one_bit, g.counted, g.fresh)))))))

-- a condition, which has one bit
abbrev Condition : SurfaceExpr → Tree → List ℕ → ExprTree → Type 0
Condition cond m numbers c = IsTyped m numbers cond (record { tree = c; width = 1 })

condition_made : (env : Env) (cond : SurfaceExpr) → Gives (made_condition env cond) (Always env.scope (Condition cond))
condition_made env cond =
    gives_bound (always_typed env.scope cond) (λ c h. gives_when (c.width == 1) (λ e. gives (Some c.tree) (Always env.scope (Condition cond)) (record {
      at = λ m numbers f.
          let t = h.at m numbers f in
          record { named = t.named; width = t.width ∙ eqb-true c.width 1 e; good = t.good };
    })))

choose_made : (env : Env) (cond : SurfaceExpr) (first second : SurfaceBody) → BodyMade env first → ((next : Env) → BodyMade next second)
    → StmtMade env (choose cond first second)
choose_made env cond first second one other =
    gives_bound (condition_made env cond) (λ c is. gives_bound one (λ a p. gives_bound (other (with_locals env a.locals)) (λ b q.
    let x : length a.locals ≡ length env.locals + declared_by a.tree = p.count in
    let y : length b.locals ≡ length a.locals + declared_by b.tree = q.count in
    let r : IsMade env (choose cond first second) (record { tree = trees.choose c a.tree b.tree; env = with_locals env b.locals }) = record {
      keeps = keeps_on p.keeps q.keeps;
      count = omega arith;
      within = within_locals b.locals (within_same env);
      names = λ w k. q.names w.1 (p.names w.0 k);
      holds = λ m k same numbers fits.
          let t = is.at m numbers fits in
          let h = p.holds m (keeps_on q.keeps k) same numbers fits in
          let g = q.holds m k same numbers fits in
          record { named = rw (t.named, h.named, g.named); good = rw (t.good, t.width, h.good, ← x, g.good); fits = fits };
    } in
    is_made r)))

repeat_made : (env : Env) (index : List ℕ) (count : ℕ) (body : SurfaceBody) → ((inside : Env) → BodyMade inside body) → StmtMade env (repeat index count body)
repeat_made env index count body all =
    gives_when (is_count count) (λ allowed. gives_bound (one_declares env index 32) (λ inside d. gives_bound (all inside) (λ b q.
    gives_when (not (any_repeats b.tree) && not (ends_always b.tree)) (λ may.
    let n = length env.locals in
    let x : length inside.locals ≡ n + 1 = d.count in
    let y : length b.locals ≡ length inside.locals + declared_by b.tree = q.count in
    let p = and_parts (not (any_repeats b.tree)) (not (ends_always b.tree)) may in
    let r : IsMade env (repeat index count body) (record { tree = trees.repeat n count b.tree; env = with_locals env b.locals }) = record {
      keeps = keeps_on d.keeps q.keeps;
      count = omega arith;
      within = within_locals b.locals (within_same env);
      names = λ w k. q.names w.1 (d.names (w.0, tt) k);
      holds = λ m k same numbers fits.
          let h = d.holds m (keeps_on q.keeps k) same numbers fits in
          let g = q.holds m k (same ∙ sym d.within.objects) (n ∷ numbers) h.fits in
          let index_is : local_name m n ≡ index = cc in
          let wide : slice_index (local_widths m) n ≡ 32 = cc in
          let has_width = eq-eqb (slice_index (local_widths m) n) 32 wide in
          let inner : is_good_body m (n ∷ numbers) (n + 1) b.tree ≡ true = rw (← x) g.good in
          record { named = rw (index_is, g.named); good = rw (allowed, p.0, p.1, has_width, h.counted, h.fresh, inner); fits = fits };
    } in
    is_made r))))

-- places don't matter to whether a body is empty
pub unplaced_done : (b : SurfaceBody) → is_done (unplaced_body b) ≡ is_done b
unplaced_done done = refl
unplaced_done (stmt at s b) = refl

body_more : (env : Env) (at : ℕ) (s : SurfaceStmt) (b : SurfaceBody) → StmtMade env s → ((next : Env) → BodyMade next b) → BodyMade env (stmt at s b)
body_more env at s b one other =
    gives_bound one (λ first p. gives_when (not (always_ends first.tree) || is_done b) (λ may. gives_bound (other first.env) (λ rest q.
    let x : length first.env.locals ≡ length env.locals + declared_in first.tree = p.count in
    let y : length rest.locals ≡ length first.env.locals + declared_by rest.tree = q.count in
    let made : MadeBody = record { tree = trees.stmt first.tree rest.tree; locals = rest.locals } in
    gives (Some made) (IsBodyMade env (stmt at s b)) (record {
      keeps = keeps_on p.keeps q.keeps;
      count = omega arith;
      names = λ w k. q.names w.1 (p.names w.0 k);
      holds = λ m k same numbers fits.
          let h = p.holds m (keeps_on q.keeps k) same numbers fits in
          let g = q.holds m k (same ∙ sym p.within.objects) (binds first.tree ++ numbers) h.fits in
          let empty : is_empty rest.tree ≡ is_done b = sym (empty_same m rest.tree) ∙ ap is_done g.named ∙ unplaced_done b in
          record { named = rw (h.named, g.named); good = rw (h.good, empty, may, ← x, g.good) };
    }))))

mutual
  stmt_made : (env : Env) (s : SurfaceStmt) → StmtMade env s
  stmt_made env (let_local word value) = let_local_made env word value
  stmt_made env (assign word value) = assign_made env word value
  stmt_made env (set_field f value) = set_field_made env f value
  stmt_made env (look found into object keys) = look_made env found into object keys
  stmt_made env (put ok object keys values) = put_made env ok object keys values
  stmt_made env (del was object keys) = del_made env was object keys
  stmt_made env (choose cond first second) = choose_made env cond first second (body_made env first) (λ next. body_made next second)
  stmt_made env (repeat index count body) = repeat_made env index count body (λ inside. body_made inside body)
  stmt_made env (send port) = send_made env port
  stmt_made env drop = made_here env drop trees.drop refl refl (λ m numbers fits. (refl, refl))

  pub body_made : (env : Env) (b : SurfaceBody) → BodyMade env b
  body_made env done = record {
    known = record {
      keeps = keeps_all env.locals;
      count = omega arith;
      names = λ w k. k;
      holds = λ m k o numbers fits. record { named = refl; good = refl };
    };
  }
  body_made env (stmt at s b) = body_more env at s b (stmt_made env s) (λ next. body_made next b)

-- what is declared behind a local, and behind any statement
pub declared_within : (env next : Env) (word : List ℕ) (width : ℕ) → declared env word width ≡ Some next → Within env next
declared_within env next word width e = (given e (one_declares env word width)).within

pub made_within : (env : Env) (s : SurfaceStmt) (m : Made) → made_stmt env s ≡ Some m → Within env m.env
made_within env s m e = (given e (stmt_made env s)).within
