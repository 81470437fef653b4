-- A copy of an element that keeps the rules names no local but those that it declares, and those after it.
use Rattle.std.proofs.Common.{◌≡◌, ◌<◌, ◌≤◌, ℕ, suc, ◌+◌, Bool, true, false, cond, inl, inr, List, [], ◌∷◌, ◌++◌, length, slice_index, refl, sym, ap, subst, ◌∙◌, arith, nat_le}
use Rattle.std.proofs.lemmas.Bool.{le-leb, leb-true}
use Rattle.std.proofs.lemmas.List.{length_push, get_or_append_left, get_or_push}
use Rattle.element_lang.specs.Tree.{ExprTree, Exprs, StmtTree, BodyTree, Tree}
use Rattle.element_lang.specs.Tree.ExprTree.{local, byte, shift, apply}
use Rattle.element_lang.specs.Tree.Exprs.{no_expr, expr}
use Rattle.element_lang.specs.Tree.StmtTree.{let_local, assign, set_field, look, put, del, choose, repeat, send, drop}
use Rattle.element_lang.specs.Tree.BodyTree.{done, stmt}
use Rattle.element_lang.specs.Rules.{is_good_expr, are_good_exprs, is_good_stmt, is_good_body, declared_in, declared_by, binds}
use Rattle.element_lang.specs.Widths.{local_widths}
use Rattle.element_chain.specs.declared.chain.Wire.{Wire}
use Rattle.chain_compose.specs.declared.name_steps.Step.{Step}
use Rattle.chain_compose.specs.declared.name_steps.Step.TheVariants.{Name, Declare, Send}
use Rattle.chain_compose.specs.Counts.{used_by_expr, used_by_exprs}
use Rattle.chain_compose.specs.NamedFrom.{is_from, named, all_declared_steps, send_steps, stmt_steps, body_steps, Spans, Namings, tests_span, tests_from, Naming, stepped, all_stepped}
use Rattle.element_chain.proofs.Alike.{IsIn}
use Rattle.element_chain.proofs.Bodies.{bound_within}
use Rattle.element_chain.proofs.Steps.{counted_within}
use Rattle.chain_compose.proofs.NamedTotals.{steps_span, steps_uses}
use Rattle.lemmas.proofs.Numbers.{below_suc}
use Rattle.lemmas.proofs.Tests.{and_first, and_second}

-- ## the steps of an element
-- each local that they name is declared before, where so many are at their start
abbrev pub AreKnown : ℕ → List Step → Type 0
AreKnown d [] = Unit {0}
AreKnown d (Name x ∷ ss) = (x < d) × AreKnown d ss
AreKnown d (Declare ∷ ss) = AreKnown (suc d) ss
AreKnown d (Send ∷ ss) = AreKnown d ss

-- how many locals of the element they declare
abbrev declares : List Step → ℕ
declares [] = 0
declares (Name x ∷ ss) = declares ss
declares (Declare ∷ ss) = suc (declares ss)
declares (Send ∷ ss) = declares ss

declares_append : (xs ys : List Step) → declares (xs ++ ys) ≡ declares xs + declares ys
declares_append [] ys = omega arith
declares_append (Name x ∷ xs) ys = declares_append xs ys
declares_append (Declare ∷ xs) ys = omega (arith, declares_append xs ys)
declares_append (Send ∷ xs) ys = declares_append xs ys

declares_named : (xs : List ℕ) → declares (named xs) ≡ 0
declares_named [] = refl
declares_named (x ∷ xs) = declares_named xs

declares_all : (xs : List ℕ) → declares (all_declared_steps xs) ≡ length xs
declares_all [] = refl
declares_all (x ∷ xs) = omega (arith, declares_all xs)

known_at : (d e : ℕ) (ss : List Step) → d ≡ e → AreKnown d ss → AreKnown e ss
known_at d e ss same known = subst (λ (k : ℕ). AreKnown k ss) same known

known_append : (d : ℕ) (xs ys : List Step) → AreKnown d xs → AreKnown (d + declares xs) ys → AreKnown d (xs ++ ys)
known_append d [] ys first rest = known_at (d + 0) d ys (omega arith) rest
known_append d (Name x ∷ xs) ys first rest = (first.0, known_append d xs ys first.1 rest)
known_append d (Declare ∷ xs) ys first rest = known_append (suc d) xs ys first (known_at (d + suc (declares xs)) (suc d + declares xs) ys (omega arith) rest)
known_append d (Send ∷ xs) ys first rest = known_append d xs ys first rest

-- names, and then more
known_after : (d : ℕ) (xs : List ℕ) (ss : List Step) → AreKnown d (named xs) → AreKnown d ss → AreKnown d (named xs ++ ss)
known_after d xs ss first rest = known_append d (named xs) ss first (known_at d (d + declares (named xs)) ss (omega (arith, declares_named xs)) rest)

known_declared : (d : ℕ) (xs : List ℕ) → AreKnown d (all_declared_steps xs)
known_declared d [] = tt
known_declared d (x ∷ xs) = known_declared (suc d) xs

known_names_append : (d : ℕ) (xs ys : List ℕ) → AreKnown d (named xs) → AreKnown d (named ys) → AreKnown d (named (xs ++ ys))
known_names_append d [] ys first rest = rest
known_names_append d (x ∷ xs) ys first rest = (first.0, known_names_append d xs ys first.1 rest)

module _ (widths scope : List ℕ) (d : ℕ) (below : (y : ℕ) → IsIn y scope → y < d) where
  mutual
    known_expr : (e : ExprTree) → is_good_expr widths scope e ≡ true → AreKnown d (named (used_by_expr e))
    known_expr (local x) h = (below x h, tt)
    known_expr (byte index) h = known_expr index (and_first _ _ h)
    known_expr (shift op by arg) h = known_expr arg (and_second _ _ h)
    known_expr (apply op width args) h = known_exprs args (and_first _ _ h)
    known_expr _ h = tt

    known_exprs : (es : Exprs) → are_good_exprs widths scope es ≡ true → AreKnown d (named (used_by_exprs es))
    known_exprs no_expr h = tt
    known_exprs (expr e es) h =
        known_names_append d (used_by_expr e) (used_by_exprs es) (known_expr e (and_first _ _ h)) (known_exprs es (and_second _ _ h))

module _ (m : Tree) (wired : Bool) where
  known_send : (d : ℕ) (port : ExprTree) (b : Bool) → AreKnown d (named (used_by_expr port)) → AreKnown d (send_steps b port)
  known_send d port true known = known_after d (used_by_expr port) (Send ∷ []) known tt
  known_send d port false known = tt

  declares_send : (port : ExprTree) (b : Bool) → declares (send_steps b port) ≡ 0
  declares_send port true = simp (declares_append, declares_named)
  declares_send port false = refl

  mutual
    declares_stmt : (s : StmtTree) → declares (stmt_steps wired s) ≡ declared_in s
    declares_stmt (look found into object keys) = simp (declares_append, declares_named) (omega (arith, declares_all into))
    declares_stmt (choose test first second) = simp (declares_append, declares_named) (omega (arith, declares_body first, declares_body second))
    declares_stmt (repeat index count body) = omega (arith, declares_body body)
    declares_stmt (send port) = declares_send port wired
    declares_stmt drop = refl
    declares_stmt _ = simp (declares_append, declares_named) (omega arith)

    declares_body : (b : BodyTree) → declares (body_steps wired b) ≡ declared_by b
    declares_body done = refl
    declares_body (stmt s b) = omega (arith, declares_append (stmt_steps wired s) (body_steps wired b), declares_stmt s, declares_body b)

  mutual
    known_stmt : (scope : List ℕ) (next : ℕ) (s : StmtTree) → ((y : ℕ) → IsIn y scope → y < next) → is_good_stmt m scope next s ≡ true
        → AreKnown next (stmt_steps wired s)
    known_stmt scope next (let_local x value) below h =
        known_after next (used_by_expr value) (Declare ∷ []) (known_expr (local_widths m) scope next below value (and_first _ _ (and_first _ _ (and_first _ _ h)))) tt
    known_stmt scope next (assign x value) below h =
        (below x (and_second _ _ (and_first _ _ h)), known_expr (local_widths m) scope next below value (and_first _ _ (and_first _ _ h)))
    known_stmt scope next (set_field f value) below h = known_expr (local_widths m) scope next below value (and_first _ _ (and_first _ _ h))
    known_stmt scope next (look found into object keys) below h =
        known_after next (used_by_exprs keys) (Declare ∷ all_declared_steps into)
        (known_exprs (local_widths m) scope next below keys (and_first _ _ (and_first _ _ (and_first _ _ (and_first _ _ (and_first _ _ h)))))) (known_declared (suc next) into)
    known_stmt scope next (put ok object keys values) below h =
        let good = and_first _ _ (and_first _ _ (and_first _ _ (and_first _ _ (and_first _ _ (and_first _ _ h))))) in
        known_after next (used_by_exprs keys) (named (used_by_exprs values) ++ Declare ∷ [])
        (known_exprs (local_widths m) scope next below keys (and_first _ _ good))
        (known_after next (used_by_exprs values) (Declare ∷ []) (known_exprs (local_widths m) scope next below values (and_second _ _ good)) tt)
    known_stmt scope next (del was object keys) below h =
        known_after next (used_by_exprs keys) (Declare ∷ [])
        (known_exprs (local_widths m) scope next below keys (and_first _ _ (and_first _ _ (and_first _ _ (and_first _ _ (and_first _ _ h)))))) tt
    known_stmt scope next (choose test first second) below h =
        known_after next (used_by_expr test) (body_steps wired first ++ body_steps wired second)
        (known_expr (local_widths m) scope next below test (and_first _ _ (and_first _ _ (and_first _ _ h))))
        (known_append next (body_steps wired first) (body_steps wired second) (known_body scope next first below (and_second _ _ (and_first _ _ h)))
        (known_at (next + declared_by first) (next + declares (body_steps wired first)) (body_steps wired second) (omega (arith, declares_body first))
        (known_body scope (next + declared_by first) second (λ y old. omega (arith, below y old)) (and_second _ _ h))))
    known_stmt scope next (repeat index count body) below h =
        known_at (next + 1) (suc next) (body_steps wired body) (omega arith)
        (known_body (index ∷ scope) (next + 1) body
        (λ y there. counted_within next (index ∷ []) scope y (and_second _ _ (and_first _ _ (and_first _ _ h))) below there) (and_second _ _ h))
    known_stmt scope next (send port) below h = known_send next port wired (known_expr (local_widths m) scope next below port (and_first _ _ h))
    known_stmt scope next drop below h = tt

    pub known_body : (scope : List ℕ) (next : ℕ) (b : BodyTree) → ((y : ℕ) → IsIn y scope → y < next) → is_good_body m scope next b ≡ true
        → AreKnown next (body_steps wired b)
    known_body scope next done below h = tt
    known_body scope next (stmt s b) below h =
        let good = and_first _ _ (and_first _ _ h) in
        known_append next (stmt_steps wired s) (body_steps wired b) (known_stmt scope next s below good)
        (known_at (next + declared_in s) (next + declares (stmt_steps wired s)) (body_steps wired b) (omega (arith, declares_stmt s))
        (known_body (binds s ++ scope) (next + declared_in s) b (λ y there. bound_within m s scope next good below y there) (and_second _ _ h)))

-- ## numbers
pub counts_one : (least n : ℕ) → least ≤ n → is_from least n ≡ 1
counts_one least n le = ap (λ (b : Bool). cond b 1 0) (le-leb least n le)

not_from : (b : Bool) (least n : ℕ) → nat_le least n ≡ b → n < least → ◌≡◌ {A = ℕ} (cond b 1 0) 0
not_from true least n is lt = absurd (omega (arith, leb-true least n is, lt))
not_from false least n is lt = refl

pub counts_none : (least n : ℕ) → n < least → is_from least n ≡ 0
counts_none least n lt = not_from (nat_le least n) least n refl lt

-- the numbers of an element's locals so far are at least this and below the next
pub record AreWithinNext (low : ℕ) (n : Naming) : Type 0 where
  pub start : low ≤ n.next
  pub least : (x : ℕ) → x < length n.names → low ≤ slice_index n.names x
  pub below : (x : ℕ) → x < length n.names → slice_index n.names x < n.next

pub none_yet : (before : ℕ) (n : Naming) → n.names ≡ [] → n.next ≡ before → AreWithinNext before n
none_yet before n none next = record {
  start = omega (arith, next);
  least = λ x lt. absurd (omega (arith, lt, ap (length {A = ℕ}) none));
  below = λ x lt. absurd (omega (arith, lt, ap (length {A = ℕ}) none));
}

at_last : (P : ℕ → Type 0) (n x : ℕ) → x < n + 1 → ((x < n) → P x) → P n → P x
at_last P n x lt before here = elim (below_suc x n (omega (arith, lt))) [ inl less ↦ before less | inr same ↦ subst P (sym same) here ]

declare_within : (low : ℕ) (n made : Naming) → AreWithinNext low n → made.names ≡ n.names ++ n.next ∷ [] → made.next ≡ suc n.next → AreWithinNext low made
declare_within low n made within names next =
    let many : length made.names ≡ length n.names + 1 = ap (length {A = ℕ}) names ∙ length_push n.names n.next in
    let old : (x : ℕ) → x < length n.names → slice_index made.names x ≡ slice_index n.names x =
    λ x lt. ap (λ (xs : List ℕ). slice_index xs x) names ∙ get_or_append_left n.names (n.next ∷ []) 0 x lt in
    let new : slice_index made.names (length n.names) ≡ n.next =
    ap (λ (xs : List ℕ). slice_index xs (length n.names)) names ∙ get_or_push n.names n.next 0 (length n.names) refl in
    record {
      start = omega (arith, within.start, next);
      least = λ x lt. at_last (λ (y : ℕ). low ≤ slice_index made.names y) (length n.names) x (omega (arith, lt, many))
          (λ less. omega (arith, old x less, within.least x less)) (omega (arith, new, within.start));
      below = λ x lt. at_last (λ (y : ℕ). slice_index made.names y < made.next) (length n.names) x (omega (arith, lt, many))
          (λ less. omega (arith, old x less, within.below x less, next)) (omega (arith, new, next));
    }

-- ## an element
module _ (least : ℕ) (span : Spans) (from : Namings) (ws : List Wire) where
  abbrev run : List Step → Naming → Naming
  run = all_stepped least span from ws

  -- where all numbers are large enough, each local that is named counts
  module _ (uses : Spans) (all : (w : Wire) (before : ℕ) → least ≤ before → from w.to w.input before ≡ uses w.to w.input) where
    all_tests : (v before : ℕ) (us : List Wire) → least ≤ v → least ≤ before → tests_from least span from v us before ≡ length us + tests_span uses us
    all_tests v before [] large more = refl
    all_tests v before (w ∷ us) large more =
        omega (arith, counts_one least v large, all w before more, all_tests v (before + span w.to w.input) us large (omega (arith, more)))

    pub all_count : (low : ℕ) (ss : List Step) (n : Naming) → least ≤ low → AreKnown (length n.names) ss → AreWithinNext low n → (run ss n).count ≡ n.count + steps_uses uses ws ss
    all_count low [] n large known within = omega arith
    all_count low (Name x ∷ ss) n large known within =
        let next = stepped least span from ws (Name x) n in
        omega (arith, all_count low ss next large known.1 (record { start = within.start; least = within.least; below = within.below }), counts_one least (slice_index n.names x) (omega (arith, large, within.least x known.0)))
    all_count low (Declare ∷ ss) n large known within =
        let next = stepped least span from ws Declare n in
        let many : suc (length n.names) ≡ length next.names = omega (arith, length_push n.names n.next) in
        omega (arith, all_count low ss next large (known_at (suc (length n.names)) (length next.names) ss many known) (declare_within low n next within refl refl), counts_one least n.next (omega (arith, large, within.start)))
    all_count low (Send ∷ ss) n large known within =
        let next = stepped least span from ws Send n in
        omega (
          arith,
          all_count low ss next large known (record { start = omega (arith, within.start); least = within.least; below = λ x lt. omega (arith, within.below x lt) }),
          counts_one least n.next (omega (arith, large, within.start)),
          all_tests n.next (suc n.next) ws (omega (arith, large, within.start)) (omega (arith, large, within.start)),
        )

  -- where none is, none does
  module _ (none : (w : Wire) (before : ℕ) → before + span w.to w.input ≤ least → from w.to w.input before ≡ 0) where
    no_tests : (v before : ℕ) (us : List Wire) → v < least → before + tests_span span us ≤ least → tests_from least span from v us before ≡ 0
    no_tests v before [] small fits = refl
    no_tests v before (w ∷ us) small fits =
        omega (arith, counts_none least v small, none w before (omega (arith, fits)), no_tests v (before + span w.to w.input) us small (omega (arith, fits)))

    pub none_counts : (low : ℕ) (ss : List Step) (n : Naming) → AreKnown (length n.names) ss → AreWithinNext low n → n.next + steps_span span ws ss ≤ least → (run ss n).count ≡ n.count
    none_counts low [] n known within fits = refl
    none_counts low (Name x ∷ ss) n known within fits =
        let next = stepped least span from ws (Name x) n in
        omega (
          arith,
          none_counts low ss next known.1 (record { start = within.start; least = within.least; below = within.below }) fits,
          counts_none least (slice_index n.names x) (omega (arith, within.below x known.0, fits)),
        )
    none_counts low (Declare ∷ ss) n known within fits =
        let next = stepped least span from ws Declare n in
        let many : suc (length n.names) ≡ length next.names = omega (arith, length_push n.names n.next) in
        omega (
          arith,
          none_counts low ss next (known_at (suc (length n.names)) (length next.names) ss many known) (declare_within low n next within refl refl) (omega (arith, fits)),
          counts_none least n.next (omega (arith, fits)),
        )
    none_counts low (Send ∷ ss) n known within fits =
        let next = stepped least span from ws Send n in
        omega (
          arith,
          none_counts low ss next known (record { start = omega (arith, within.start); least = within.least; below = λ x lt. omega (arith, within.below x lt) }) (omega (arith, fits)),
          counts_none least n.next (omega (arith, fits)),
          no_tests n.next (suc n.next) ws (omega (arith, fits)) (omega (arith, fits)),
        )
