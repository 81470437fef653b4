-- Within a repeat, and behind a statement that always ends, one more rule may be broken.
use Rattle.std.proofs.Common.{◌≡◌, ℕ, Bool, true, false, not, ◌&&◌, ◌||◌, List, ◌++◌, Option, Some, None, is_none, refl, sym, ap, ap₂, ◌∙◌, arith}
use Rattle.std.proofs.lemmas.Bool.{or_right}
use Rattle.state_store.specs.declared.object.ObjectDecl.{ObjectDecl}
use Rattle.element_lang.specs.declared.tree.Local.{Local}
use Rattle.element_lang.specs.declared.broken.Broken.{Broken}
use Rattle.element_lang.specs.Rules.{is_count}
use Rattle.element_lang.specs.Surface.{SurfaceStmt, SurfaceBody, let_local, choose, repeat, done, stmt}
use Rattle.element_lang.specs.Broken.{Sight, always_ends, stmt_tests, lowest_broken, ◌or_else◌, binds, behind, broken_within, broken_in}
use Rattle.element_text.specs.Resolve.{is_done}
use Rattle.element_text.proofs.AgreeingTests.{none_of, none_lowest, ended_fails, repeat_fails}
use Rattle.element_text.proofs.AgreeingStmts.{sight_of, has_repeat, have_repeats}
use Rattle.lemmas.proofs.Tests.{and_false, and_true}

-- ## What is seen within a repeat, and behind a statement that always ends

abbrev pub sight_at : List ObjectDecl → List Local → Bool → Bool → Sight
sight_at objects locals repeated ended = record { objects = objects; locals = locals; repeated = repeated; ended = ended }

pub none_or : (a b : Option Broken) → is_none (a or_else b) ≡ (is_none a && is_none b)
none_or None b = refl
none_or (Some x) b = refl

-- a statement's own tests, those of statements inside it, and those of what follows
pub first_kept : (sight : Sight) (at : ℕ) (s : SurfaceStmt) (b : SurfaceBody)
    → is_none (broken_in sight (stmt at s b)) ≡ (none_of (stmt_tests sight s) && (is_none (broken_within sight s) && is_none (broken_in (behind sight s) b)))
first_kept sight at s b =
    none_or (lowest_broken at (stmt_tests sight s)) (broken_within sight s or_else broken_in (behind sight s) b)
    ∙ ap₂ (λ x y. x && y) (none_lowest at (stmt_tests sight s)) (none_or (broken_within sight s) (broken_in (behind sight s) b))

pub ended_body : (objects : List ObjectDecl) (locals : List Local) (r e : Bool) (b : SurfaceBody)
    → is_none (broken_in (sight_at objects locals r e) b) ≡ ((not e || is_done b) && is_none (broken_in (sight_at objects locals r false) b))
ended_body objects locals r false b = refl
ended_body objects locals r true done = refl
ended_body objects locals r true (stmt at s b) =
    let sight = sight_at objects locals r true in
    let rest = is_none (broken_within sight s) && is_none (broken_in (behind sight s) b) in
    first_kept sight at s b ∙ ap (λ t. t && rest) (ended_fails sight s refl)

binds_same : (objects : List ObjectDecl) (locals : List Local) (r e : Bool) (s : SurfaceStmt)
    → binds (sight_at objects locals r e) s ≡ binds (sight_of objects locals) s
binds_same objects locals r e (let_local word value) = refl
binds_same objects locals r e _ = refl

two_inside : (t a b r s : Bool) → (t && ((a && not r) && (b && not s))) ≡ ((t && (a && b)) && not (r || s))
two_inside t a b r s = grind arith

one_and_more : (t w b r s : Bool) → (((t && w) && not r) && (b && not s)) ≡ ((t && (w && b)) && not (r || s))
one_and_more t w b r s = grind arith

grouped : (a b c : Bool) → (a && (b && c)) ≡ ((a && b) && c)
grouped a b c = grind arith

-- what is kept by a statement and those inside it
abbrev pub kept : Sight → SurfaceStmt → Bool
kept sight s = none_of (stmt_tests sight s) && is_none (broken_within sight s)

mutual
  repeated_stmt : (objects : List ObjectDecl) (locals : List Local) (e : Bool) (s : SurfaceStmt)
      → kept (sight_at objects locals true e) s ≡ (kept (sight_at objects locals false e) s && not (has_repeat s))
  repeated_stmt objects locals e (choose cond first second) =
      let sight = sight_at objects locals false e in
      let tests = none_of (stmt_tests sight (choose cond first second)) in
      let outer = sight_at objects locals false false in
      let inner = sight_at objects locals true false in
      let a = is_none (broken_in outer first) in
      let b = is_none (broken_in outer second) in
      ap (λ x. tests && x) (none_or (broken_in inner first) (broken_in inner second)
      ∙ ap₂ (λ x y. x && y) (repeated_body objects locals false first) (repeated_body objects locals false second))
      ∙ two_inside tests a b (have_repeats first) (have_repeats second)
      ∙ ap (λ x. (tests && x) && not (have_repeats first || have_repeats second)) (sym (none_or (broken_in outer first) (broken_in outer second)))
  repeated_stmt objects locals e (repeat index count body) =
      let s = repeat index count body in
      let inner = sight_at objects locals true e in
      ap (λ t. t && is_none (broken_within inner s)) (repeat_fails inner s (or_right (not (is_count count)) true refl))
      ∙ sym (and_false (kept (sight_at objects locals false e) s))
  repeated_stmt objects locals e s = sym (and_true (none_of (stmt_tests (sight_at objects locals false e) s) && true))

  -- within a repeat no statement breaks a rule exactly where none does outside, and none is a repeat
  pub repeated_body : (objects : List ObjectDecl) (locals : List Local) (e : Bool) (b : SurfaceBody)
      → is_none (broken_in (sight_at objects locals true e) b) ≡ (is_none (broken_in (sight_at objects locals false e) b) && not (have_repeats b))
  repeated_body objects locals e done = refl
  repeated_body objects locals e (stmt at s b) =
      let outer = sight_at objects locals false e in
      let inner = sight_at objects locals true e in
      let after = λ (ls : List Local) (r : Bool). is_none (broken_in (sight_at objects (locals ++ ls) r (e || always_ends s)) b) in
      let tests = none_of (stmt_tests inner s) in
      let within = is_none (broken_within inner s) in
      let there : after (binds inner s) true ≡ (after (binds outer s) false && not (have_repeats b)) =
      ap (λ ls. after ls true) (binds_same objects locals true e s ∙ sym (binds_same objects locals false e s))
      ∙ repeated_body objects (locals ++ binds outer s) (e || always_ends s) b in
      first_kept inner at s b
      ∙ grouped tests within (after (binds inner s) true)
      ∙ ap₂ (λ x y. x && y) (repeated_stmt objects locals e s) there
      ∙ one_and_more (none_of (stmt_tests outer s)) (is_none (broken_within outer s)) (after (binds outer s) false) (has_repeat s) (have_repeats b)
      ∙ ap (λ x. x && not (has_repeat s || have_repeats b)) (sym (first_kept outer at s b))
