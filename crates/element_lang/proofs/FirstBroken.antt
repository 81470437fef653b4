-- The first of the parts of a source that break a rule.
use Rattle.std.proofs.Common.{◌≡◌, ◌<◌, ◌≤◌, suc, ◌-◌, ℕ, Bool, true, false, ◌&&◌, ◌||◌, List, [], ◌∷◌, ◌++◌, length, nat_lt, nat_eq, Option, Some, None, refl, sym, ap, subst, ◌∙◌, arith}
use Rattle.std.proofs.lemmas.Bool.Decides.{nat_tests}
use Rattle.state_store.specs.declared.object.ObjectDecl.{ObjectDecl}
use Rattle.element_lang.specs.declared.broken.Broken.{Broken}
use Rattle.element_lang.specs.Token.{Token}
use Rattle.element_lang.specs.Surface.{SurfaceStmt, SurfaceBody, Declared, Surface, choose, repeat, done, stmt, object_of}
use Rattle.element_lang.specs.Grammar.{Spells, IsStmt, IsElse, IsBody, IsMiddlebox}
use Rattle.element_lang.specs.Grammar.IsStmt.{is_let, is_assign, is_set_field, is_look, is_put, is_del, is_if, is_repeat, is_send, is_drop}
use Rattle.element_lang.specs.Grammar.IsElse.{is_absent, is_else}
use Rattle.element_lang.specs.Grammar.IsBody.{is_end, is_more}
use Rattle.element_lang.specs.Grammar.IsMiddlebox.{is_process, is_declared}
use Rattle.element_lang.specs.Broken.{Sight, inside, in_repeat, behind, stmt_tests, decl_tests, lowest_broken, ◌or_else◌, broken_within, broken_in, broken_decl, first_broken}
use Rattle.element_lang.specs.First.{Site, sites_within, sites_in, declared_sites, first_sight, surface_sites, StandsIn, breaks, IsFirstBroken, BreakNone}
use Rattle.element_lang.specs.First.StandsIn.{first, later}
use Rattle.element_lang.proofs.Shorter as shorter
use Rattle.lemmas.proofs.Tests.{and_first, and_second}
use Rattle.std.proofs.lemmas.Bool.{ltb-true}

-- ## One part

-- the rules rise from n on
abbrev rising : ℕ → List (ℕ × Bool) → Bool
rising n [] = true
rising n ((rule, broken) ∷ tests) = nat_lt n rule && rising rule tests

other_rule : (a b : ℕ) → b < a → nat_eq a b ≡ false
other_rule a b h = grind (arith, nat_tests)

same_rule : (a : ℕ) → nat_eq a a ≡ true
same_rule a = grind (arith, nat_tests)

neither : (a b c : Bool) → a ≡ false → c ≡ false → ((a && b) || c) ≡ false
neither false b false e f = refl
neither true b c e f = cc
neither false b true e f = cc

not_that : (a c : Bool) → c ≡ false → ((a && false) || c) ≡ false
not_that true false e = refl
not_that false false e = refl
not_that a true e = cc

this_one : (a c : Bool) → a ≡ true → ((a && true) || c) ≡ true
this_one true c e = refl
this_one false c e = cc

or_that : (a c : Bool) → c ≡ true → ((a && false) || c) ≡ true
or_that true true e = refl
or_that false true e = refl
or_that a false e = cc

none_lower : (n rule : ℕ) (tests : List (ℕ × Bool)) → rising n tests ≡ true → rule ≤ n → breaks tests rule ≡ false
none_lower n rule [] h low = refl
none_lower n rule ((r, broken) ∷ tests) h low =
    let above : n < r = ltb-true n r (and_first (nat_lt n r) (rising r tests) h) in
    neither (nat_eq r rule) broken (breaks tests rule) (other_rule r rule (omega arith))
    (none_lower r rule tests (and_second (nat_lt n r) (rising r tests) h) (omega arith))

record Lowest (at n : ℕ) (tests : List (ℕ × Bool)) (b : Broken) : Type 0 where
  pub there : at ≡ b.at
  pub broken : breaks tests b.rule ≡ true
  pub lowest : (rule : ℕ) → rule < b.rule → breaks tests rule ≡ false

lowest_told : (at n : ℕ) (tests : List (ℕ × Bool)) (b : Broken) → rising n tests ≡ true → lowest_broken at tests ≡ Some b → Lowest at n tests b
lowest_told at n [] b h e = cc
lowest_told at n ((r, true) ∷ tests) b h e =
    let is : record { rule = r; at = at } ≡ b = cc in
    let rest = and_second (nat_lt n r) (rising r tests) h in
    let P : Broken → Type 0 = λ b. Lowest at n ((r, true) ∷ tests) b in
    subst P is (record {
      there = refl;
      broken = this_one (nat_eq r r) (breaks tests r) (same_rule r);
      lowest = λ rule low. neither (nat_eq r rule) true (breaks tests rule) (other_rule r rule low) (none_lower r rule tests rest (omega arith));
    })
lowest_told at n ((r, false) ∷ tests) b h e =
    let k = lowest_told at r tests b (and_second (nat_lt n r) (rising r tests) h) e in
    record {
      there = k.there;
      broken = or_that (nat_eq r b.rule) (breaks tests b.rule) k.broken;
      lowest = λ rule low. not_that (nat_eq r rule) (breaks tests rule) (k.lowest rule low);
    }

none_told : (at : ℕ) (tests : List (ℕ × Bool)) → lowest_broken at tests ≡ None → (rule : ℕ) → breaks tests rule ≡ false
none_told at [] e rule = refl
none_told at ((r, true) ∷ tests) e rule = cc
none_told at ((r, false) ∷ tests) e rule = not_that (nat_eq r rule) (breaks tests rule) (none_told at tests e rule)

-- ## Lists of parts

abbrev first_in : List Site → Option Broken
first_in [] = None
first_in (p ∷ ps) = lowest_broken p.at p.tests or_else first_in ps

or_assoc : (a b c : Option Broken) → ((a or_else b) or_else c) ≡ (a or_else (b or_else c))
or_assoc None b c = refl
or_assoc (Some x) b c = refl

first_joined : (ps qs : List Site) → (first_in ps or_else first_in qs) ≡ first_in (ps ++ qs)
first_joined [] qs = refl
first_joined (p ∷ ps) qs =
    or_assoc (lowest_broken p.at p.tests) (first_in ps) (first_in qs) ∙ ap (λ o. lowest_broken p.at p.tests or_else o) (first_joined ps qs)

both_are : {a b c d : Option Broken} → a ≡ c → b ≡ d → (a or_else b) ≡ (c or_else d)
both_are {b = b} {c = c} e f = ap (λ o. o or_else b) e ∙ ap (λ o. c or_else o) f

mutual
  within_is : (sight : Sight) (s : SurfaceStmt) → broken_within sight s ≡ first_in (sites_within sight s)
  within_is sight (choose cond b c) =
      both_are (in_is (inside sight) b) (in_is (inside sight) c) ∙ first_joined (sites_in (inside sight) b) (sites_in (inside sight) c)
  within_is sight (repeat index count body) = in_is (in_repeat sight (repeat index count body)) body
  within_is sight _ = refl

  in_is : (sight : Sight) (b : SurfaceBody) → broken_in sight b ≡ first_in (sites_in sight b)
  in_is sight done = refl
  in_is sight (stmt at s b) =
      ap (λ o. lowest_broken at (stmt_tests sight s) or_else o)
      (both_are (within_is sight s) (in_is (behind sight s) b) ∙ first_joined (sites_within sight s) (sites_in (behind sight s) b))

decls_are : (objects : List ObjectDecl) (ds : List Declared) → broken_decl objects ds ≡ first_in (declared_sites objects ds)
decls_are objects [] = refl
decls_are objects (d ∷ ds) = ap (λ o. lowest_broken d.at (decl_tests objects d.decl) or_else o) (decls_are (objects ++ object_of d.decl ∷ []) ds)

first_is : (surface : Surface) → first_broken surface ≡ first_in (surface_sites surface)
first_is surface =
    both_are (decls_are [] surface.objects) (in_is (first_sight surface) surface.body)
    ∙ first_joined (declared_sites [] surface.objects) (sites_in (first_sight surface) surface.body)

-- ## Places

-- the places fall, from the highest down to above the lowest, and so the parts stand in order; their rules rise
abbrev Falls : ℕ → ℕ → List Site → Type 0
Falls low high [] = low ≤ high
Falls low high (p ∷ ps) = (low < p.at) × (p.at ≤ high) × (rising 0 p.tests ≡ true) × Falls low (p.at - 1) ps

from_higher : (low high more : ℕ) (ps : List Site) → high ≤ more → Falls low high ps → Falls low more ps
from_higher low high more [] h f = omega arith
from_higher low high more (p ∷ ps) h (a, b, c, d) = (a, omega arith, c, d)

falls_joined : (low mid high : ℕ) (ps qs : List Site) → Falls mid high ps → Falls low mid qs → low ≤ mid → Falls low high (ps ++ qs)
falls_joined low mid high [] qs f g h = from_higher low mid high qs f g
falls_joined low mid high (p ∷ ps) qs (a, b, c, d) g h = (omega arith, b, c, falls_joined low mid (p.at - 1) ps qs d g h)

mutual
  stmt_falls : (sight : Sight) {s : SurfaceStmt} {ts rest : List Token} → IsStmt s ts rest
      → (length rest < length ts) × Falls (length rest) (length ts - 1) (sites_within sight s)
  stmt_falls sight (is_let h) = (omega (arith, shorter.expr h), omega (arith, shorter.expr h))
  stmt_falls sight (is_assign h) = (omega (arith, shorter.expr h), omega (arith, shorter.expr h))
  stmt_falls sight (is_set_field h) = (omega (arith, shorter.expr h), omega (arith, shorter.expr h))
  stmt_falls sight (is_look h k) = (omega (arith, shorter.names h, shorter.keys k), omega (arith, shorter.names h, shorter.keys k))
  stmt_falls sight (is_put h k) = (omega (arith, shorter.keys h, shorter.exprs k), omega (arith, shorter.keys h, shorter.exprs k))
  stmt_falls sight (is_del h) = (omega (arith, shorter.keys h), omega (arith, shorter.keys h))
  stmt_falls sight (is_if {first = x} {second = y} {ts = ts} {us = us} {vs = vs} {rest = rest} h k l) =
      let (a, f) = body_falls (inside sight) k in
      let (b, g) = else_falls (inside sight) l in
      let upper : length us ≤ suc (length ts) - 1 = omega (arith, shorter.expr h) in
      let all = falls_joined (length rest) (length vs) (length us) (sites_in (inside sight) x) (sites_in (inside sight) y) f g b in
      (omega arith, from_higher (length rest) (length us) (suc (length ts) - 1) _ upper all)
  stmt_falls sight (is_repeat {word = word} {count = count} {b = body} {ts = ts} {rest = rest} h) =
      let (a, f) = body_falls (in_repeat sight (repeat word count body)) h in
      (omega arith, from_higher (length rest) (length ts) (suc (suc (suc (suc (length ts)))) - 1) _ (omega arith) f)
  stmt_falls sight (is_send h) = (omega (arith, shorter.expr h), omega (arith, shorter.expr h))
  stmt_falls sight is_drop = (omega arith, omega arith)

  else_falls : (sight : Sight) {b : SurfaceBody} {ts rest : List Token} → IsElse b ts rest
      → (length rest ≤ length ts) × Falls (length rest) (length ts) (sites_in sight b)
  else_falls sight is_absent = (omega arith, omega arith)
  else_falls sight (is_else {ts = ts} {rest = rest} h) =
      let (a, f) = body_falls sight h in
      (omega arith, from_higher (length rest) (length ts) (suc (suc (length ts))) _ (omega arith) f)

  body_falls : (sight : Sight) {b : SurfaceBody} {ts rest : List Token} → IsBody b ts rest
      → (length rest < length ts) × Falls (length rest) (length ts) (sites_in sight b)
  body_falls sight is_end = (omega arith, omega arith)
  body_falls sight (is_more {s = s} {b = b} {ts = ts} {between = between} {rest = rest} h k) =
      let (a, f) = stmt_falls sight h in
      let (c, g) = body_falls (behind sight s) k in
      let all = falls_joined (length rest) (length between) (length ts - 1) (sites_within sight s) (sites_in (behind sight s) b) f g (omega arith) in
      (omega arith, (omega arith, omega arith, refl, all))

source_falls : (objects : List ObjectDecl) (sight : Sight) {ds : List Declared} {b : SurfaceBody} {ts rest : List Token} → IsMiddlebox ds b ts rest
    → (length rest < length ts) × Falls (length rest) (length ts) (declared_sites objects ds ++ sites_in sight b)
source_falls objects sight (is_process {ts = ts} {rest = rest} h) =
    let (a, f) = body_falls sight h in
    (omega arith, from_higher (length rest) (length ts) (suc (suc (length ts))) _ (omega arith) f)
source_falls objects sight (is_declared {d = d} {ds = ds} {b = b} {ts = ts} {us = us} {rest = rest} h k) =
    let (a, f) = source_falls (objects ++ object_of d ∷ []) sight k in
    let under : length us ≤ length ts - 1 = omega (arith, shorter.decl h) in
    (omega (arith, shorter.decl h), (omega (arith, shorter.decl h), omega arith, refl, from_higher (length rest) (length us) (length ts - 1) _ under f))

-- ## The first

at_most : (low high : ℕ) (ps : List Site) → Falls low high ps → (p : Site) → StandsIn p ps → p.at ≤ high
at_most low high [] f p x = elim x [ ]
at_most low high (q ∷ ps) (a, b, c, d) p first = b
at_most low high (q ∷ ps) (a, b, c, d) p (later h) = omega (arith, at_most low (q.at - 1) ps d p h)

before_here : (p : Site) (ps : List Site) (b : Broken) → p.at ≡ b.at → ((other : Site) → StandsIn other ps → other.at < b.at)
    → (other : Site) → StandsIn other (p ∷ ps) → b.at < other.at → (rule : ℕ) → breaks other.tests rule ≡ false
before_here p ps b here under other first above rule = absurd (omega arith)
before_here p ps b here under other (later h) above rule = absurd (omega (arith, under other h))

one_here : (p : Site) (ps : List Site) (b : Broken) → ((other : Site) → StandsIn other ps → other.at < b.at)
    → (other : Site) → StandsIn other (p ∷ ps) → other.at ≡ b.at → other ≡ p
one_here p ps b under other first e = refl
one_here p ps b under other (later h) e = absurd (omega (arith, under other h))

told_here : (low high : ℕ) (p : Site) (ps : List Site) (b : Broken) → Falls low high (p ∷ ps) → lowest_broken p.at p.tests ≡ Some b
    → IsFirstBroken (p ∷ ps) b
told_here low high p ps b (a, c, d, f) e =
    let k = lowest_told p.at 0 p.tests b d e in
    let here : p.at ≡ b.at = k.there in
    let under : (other : Site) → StandsIn other ps → other.at < b.at = λ other h. omega (arith, at_most low (p.at - 1) ps f other h) in
    record {
      part = p;
      stands = first;
      there = here;
      broken = k.broken;
      lowest = k.lowest;
      before = before_here p ps b here under;
      one = one_here p ps b under;
    }

before_later : (p : Site) (ps : List Site) (b : Broken) → ((rule : ℕ) → breaks p.tests rule ≡ false) → IsFirstBroken ps b
    → (other : Site) → StandsIn other (p ∷ ps) → b.at < other.at → (rule : ℕ) → breaks other.tests rule ≡ false
before_later p ps b keeps k other first above rule = keeps rule
before_later p ps b keeps k other (later h) above rule = k.before other h above rule

one_later : (p : Site) (ps : List Site) (b : Broken) → (k : IsFirstBroken ps b) → b.at < p.at
    → (other : Site) → StandsIn other (p ∷ ps) → other.at ≡ b.at → other ≡ k.part
one_later p ps b k above other first e = absurd (omega arith)
one_later p ps b k above other (later h) e = k.one other h e

told_later : (low high : ℕ) (p : Site) (ps : List Site) (b : Broken) → Falls low high (p ∷ ps)
    → ((rule : ℕ) → breaks p.tests rule ≡ false) → IsFirstBroken ps b → IsFirstBroken (p ∷ ps) b
told_later low high p ps b (a, c, d, f) keeps k =
    let there : k.part.at ≡ b.at = k.there in
    let above : b.at < p.at = omega (arith, at_most low (p.at - 1) ps f k.part k.stands) in
    record {
      part = k.part;
      stands = later k.stands;
      there = there;
      broken = k.broken;
      lowest = k.lowest;
      before = before_later p ps b keeps k;
      one = one_later p ps b k above;
    }

by_own : (low high : ℕ) (p : Site) (ps : List Site) (b : Broken) → Falls low high (p ∷ ps) → (o : Option Broken) → lowest_broken p.at p.tests ≡ o
    → (o or_else first_in ps) ≡ Some b → (first_in ps ≡ Some b → IsFirstBroken ps b) → IsFirstBroken (p ∷ ps) b
by_own low high p ps b f (Some x) is e rest = told_here low high p ps b f (is ∙ e)
by_own low high p ps b f None is e rest = told_later low high p ps b f (none_told p.at p.tests is) (rest e)

rest_falls : (low high : ℕ) (p : Site) (ps : List Site) → Falls low high (p ∷ ps) → Falls low (p.at - 1) ps
rest_falls low high p ps (a, b, c, d) = d

told_in : (low high : ℕ) (ps : List Site) (b : Broken) → Falls low high ps → first_in ps ≡ Some b → IsFirstBroken ps b
told_in low high [] b f e = cc
told_in low high (p ∷ ps) b f e =
    by_own low high p ps b f (lowest_broken p.at p.tests) refl e (told_in low (p.at - 1) ps b (rest_falls low high p ps f))

neither_told : (o r : Option Broken) → (o or_else r) ≡ None → (o ≡ None) × (r ≡ None)
neither_told None r e = (refl, e)
neither_told (Some x) r e = cc

none_in : (ps : List Site) → first_in ps ≡ None → BreakNone ps
none_in [] e q x rule = elim x [ ]
none_in (p ∷ ps) e q first rule =
    none_told p.at p.tests (neither_told (lowest_broken p.at p.tests) (first_in ps) e).0 rule
none_in (p ∷ ps) e q (later h) rule = none_in ps (neither_told (lowest_broken p.at p.tests) (first_in ps) e).1 q h rule

pub told : (ts : List Token) (surface : Surface) (b : Broken) → Spells ts surface → first_broken surface ≡ Some b → IsFirstBroken (surface_sites surface) b
told ts surface b h e =
    let (a, f) = source_falls [] (first_sight surface) h in
    told_in 0 (length ts) (surface_sites surface) b f (sym (first_is surface) ∙ e)

pub none : (ts : List Token) (surface : Surface) → Spells ts surface → first_broken surface ≡ None → BreakNone (surface_sites surface)
none ts surface h e = none_in (surface_sites surface) (sym (first_is surface) ∙ e)
