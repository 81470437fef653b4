-- Names are known, and free, with numbers exactly where they are without.
use Rattle.std.proofs.Common.{◌≡◌, ℕ, zero, suc, ◌+◌, ◌-◌, ◌≤◌, Bool, true, false, not, ◌&&◌, ◌||◌, List, [], ◌∷◌, ◌++◌, map, length, ◌==◌, if◌then◌else◌, Option, Some, None, is_some, is_none, slice_get, refl, sym, ap, ap₂, subst, ◌∙◌, arith, append_assoc}
use Rattle.std.specs.List.{list_any, list_all}
use Rattle.std.specs.Str.{bytes_eq}
use Rattle.std.proofs.lemmas.Bool.{eqb-true, eq-eqb, and_parts, false≢true}
use Rattle.std.proofs.lemmas.List.{map-append, append-nil}
use Rattle.std.proofs.lemmas.List.Folds.{list_all-append}
use Rattle.state_store.specs.declared.object.ObjectDecl.{ObjectDecl}
use Rattle.element_lang.specs.declared.tree.Local.{Local}
use Rattle.element_lang.specs.Rules.{is_width}
use Rattle.element_lang.specs.Broken.{local_named, object_named, locals_of, are_free}
use Rattle.element_text.specs.Resolve.{Known, local_in, object_from, Env, is_free, with_local, declared, all_declared}
use Rattle.element_text.proofs.Agreement.{Agrees, agrees_some, agrees_none, agrees_to, agrees_so, agrees_bound, agrees_when, swapped}
use Rattle.element_text.proofs.AgreeingExprs.{is_wide, InScope, local_agrees}
use Rattle.lemmas.proofs.Tests.{and_true, same_tests}

-- the values of an object have widths of values
abbrev pub has_values : ObjectDecl → Bool
has_values o = list_all is_width o.values

-- these objects and locals are known, with and without numbers
pub record Seen (objects : List ObjectDecl) (locals : List Local) (env : Env) : Type 0 where
  pub same_objects : env.objects ≡ objects
  pub in_scope : InScope locals env.scope
  pub values : list_all has_values objects ≡ true

-- ## Objects

object_agrees_from : (n : ℕ) (os : List ObjectDecl) (word : List ℕ)
    → Agrees (object_from n os word) (not (is_none (object_named os word))) (λ o. (n ≤ o) × (slice_get os (o - n) ≡ object_named os word))
object_agrees_from n [] word = agrees_none (λ o. (n ≤ o) × (slice_get [] (o - n) ≡ None))
object_agrees_from n (d ∷ os) word = by_test (bytes_eq word d.name) (object_agrees_from (n + 1) os word)
  where
    by_test : (b : Bool) → Agrees (object_from (n + 1) os word) (not (is_none (object_named os word)))
        (λ o. (n + 1 ≤ o) × (slice_get os (o - (n + 1)) ≡ object_named os word))
        → Agrees (if b then Some n else object_from (n + 1) os word) (not (is_none (if b then Some d else object_named os word)))
        (λ o. (n ≤ o) × (slice_get (d ∷ os) (o - n) ≡ (if b then Some d else object_named os word)))
    by_test true h =
        let same : n - n ≡ zero = omega arith in
        agrees_some n (λ o. (n ≤ o) × (slice_get (d ∷ os) (o - n) ≡ Some d)) (omega arith, ap (slice_get (d ∷ os)) same)
    by_test false h =
        agrees_so (λ o. (n + 1 ≤ o) × (slice_get os (o - (n + 1)) ≡ object_named os word))
        (λ o. (n ≤ o) × (slice_get (d ∷ os) (o - n) ≡ object_named os word)) (λ o p.
        let within : n + 1 ≤ o = p.0 in
        let same : o - n ≡ suc (o - (n + 1)) = omega arith in
        (omega arith, ap (slice_get (d ∷ os)) same ∙ p.1)) h

pub object_agrees : (os : List ObjectDecl) (word : List ℕ)
    → Agrees (object_from 0 os word) (not (is_none (object_named os word))) (λ o. slice_get os o ≡ object_named os word)
object_agrees os word =
    agrees_so (λ o. (0 ≤ o) × (slice_get os (o - 0) ≡ object_named os word)) (λ o. slice_get os o ≡ object_named os word) (λ o p.
    let same : o ≡ o - 0 = omega arith in
    ap (slice_get os) same ∙ p.1) (object_agrees_from 0 os word)

-- ## Free names

pub no_object : (os : List ObjectDecl) (word : List ℕ) → not (list_any (bytes_eq word) (map (λ o. o.name) os)) ≡ is_none (object_named os word)
no_object [] word = refl
no_object (d ∷ os) word = by_test (bytes_eq word d.name) (list_any (bytes_eq word) (map (λ o. o.name) os)) (object_named os word) (no_object os word)
  where
    by_test : (b x : Bool) (o : Option ObjectDecl) → not x ≡ is_none o → not (b || x) ≡ is_none (if b then Some d else o)
    by_test true x o e = refl
    by_test false x o e = e

none_is : {A : Type 0} (o : Option A) (b : Bool) → is_some o ≡ not b → is_none o ≡ b
none_is None true e = refl
none_is None false e = absurd (false≢true e)
none_is (Some x) true e = absurd (false≢true (sym e))
none_is (Some x) false e = refl

module _ (objects : List ObjectDecl) (locals : List Local) (env : Env) (h : Seen objects locals env) where
  free_agrees : (word : List ℕ) → is_free env word ≡ (is_none (object_named objects word) && is_none (local_named locals word))
  free_agrees word =
      let no_others = ap (λ os. not (list_any (bytes_eq word) (map (λ (o : ObjectDecl). o.name) os))) h.same_objects ∙ no_object objects word in
      let found = local_agrees locals env.scope word h.in_scope in
      ap₂ (λ a b. a && b) no_others (none_is (local_in env.scope word) (is_none (local_named locals word)) found.same)

  seen_pushed : (l : Local) → is_width l.width ≡ true → Seen objects (locals ++ l ∷ []) (with_local env l)
  seen_pushed l wide = record {
    same_objects = h.same_objects;
    in_scope = record {
      same = map-append (λ (k : Known). k.decl) env.scope (record { number = length env.locals; decl = l } ∷ []) ∙ ap (λ ls. ls ++ l ∷ []) h.in_scope.same;
      wide = rw (list_all-append is_wide locals (l ∷ []), h.in_scope.wide, wide);
    };
    values = h.values;
  }

  -- one more local
  one_agrees : (word : List ℕ) (width : ℕ) → is_width width ≡ true
      → Agrees (declared env word width) (is_none (object_named objects word) && is_none (local_named locals word))
      (Seen objects (locals ++ record { name = word; width = width } ∷ []))
  one_agrees word width wide =
      let l : Local = record { name = word; width = width } in
      let free = is_none (object_named objects word) && is_none (local_named locals word) in
      agrees_to (ap₂ (λ a b. (a && b) && true) (free_agrees word) wide ∙ and_true (free && true) ∙ and_true free)
      (agrees_when (is_free env word && is_width width) (λ e. agrees_some (with_local env l) (Seen objects (locals ++ l ∷ [])) (seen_pushed l wide)))

  -- the only one of a statement
  pub sole_agrees : (word : List ℕ) (width : ℕ) → is_width width ≡ true
      → Agrees (declared env word width) (are_free objects locals (record { name = word; width = width } ∷ []))
      (Seen objects (locals ++ record { name = word; width = width } ∷ []))
  sole_agrees word width wide =
      agrees_to (sym (and_true (is_none (object_named objects word) && is_none (local_named locals word)))) (one_agrees word width wide)

-- ## Several at once

-- as many names as widths
abbrev pub is_even : List (List ℕ) → List ℕ → Bool
is_even [] [] = true
is_even [] (v ∷ vs) = false
is_even (w ∷ ws) [] = false
is_even (w ∷ ws) (v ∷ vs) = is_even ws vs

pub even_lengths : (ws : List (List ℕ)) (vs : List ℕ) → is_even ws vs ≡ (length ws == length vs)
even_lengths [] [] = refl
even_lengths [] (v ∷ vs) = same_tests false (length {A = List ℕ} [] == length (v ∷ vs)) (λ e. absurd (false≢true e))
    (λ e. absurd (omega (arith, eqb-true (length {A = List ℕ} []) (length (v ∷ vs)) e)))
even_lengths (w ∷ ws) [] = same_tests false (length (w ∷ ws) == length {A = ℕ} []) (λ e. absurd (false≢true e))
    (λ e. absurd (omega (arith, eqb-true (length (w ∷ ws)) (length {A = ℕ} []) e)))
even_lengths (w ∷ ws) (v ∷ vs) = even_lengths ws vs ∙ one_more (length ws) (length vs)
  where
    one_more : (a b : ℕ) → (a == b) ≡ (suc a == suc b)
    one_more a b = same_tests (a == b) (suc a == suc b) (λ e. eq-eqb (suc a) (suc b) (ap suc (eqb-true a b e)))
        (λ e. eq-eqb a b (let same : suc a ≡ suc b = eqb-true (suc a) (suc b) e in omega arith))

pub all_agree : (objects : List ObjectDecl) (locals : List Local) (env : Env) → Seen objects locals env → (ws : List (List ℕ)) (vs : List ℕ)
    → list_all is_width vs ≡ true
    → Agrees (all_declared env ws vs) (is_even ws vs && are_free objects locals (locals_of ws vs)) (Seen objects (locals ++ locals_of ws vs))
all_agree objects locals env h [] [] wide = agrees_some env (Seen objects (locals ++ [])) (subst (λ ls. Seen objects ls env) (sym (append-nil locals)) h)
all_agree objects locals env h [] (v ∷ vs) wide = agrees_none (Seen objects (locals ++ []))
all_agree objects locals env h (w ∷ ws) [] wide = agrees_none (Seen objects (locals ++ locals_of (w ∷ ws) []))
all_agree objects locals env h (w ∷ ws) (v ∷ vs) wide =
    let l : Local = record { name = w; width = v } in
    let p = and_parts _ _ wide in
    let free = is_none (object_named objects w) && is_none (local_named locals w) in
    let even = is_even ws vs in
    let others = are_free objects (locals ++ l ∷ []) (locals_of ws vs) in
    agrees_to (swapped free even others)
    (agrees_bound (one_agrees objects locals env h w v p.0) (λ next k.
    subst (λ ls. Agrees (all_declared next ws vs) (even && others) (Seen objects ls)) (append_assoc locals (l ∷ []) (locals_of ws vs))
    (all_agree objects (locals ++ l ∷ []) next k ws vs p.1)))
