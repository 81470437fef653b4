-- Depths that stop at the greatest that 64 bits can hold.
use Rattle.std.proofs.Common.{Bool, true, ◌≡◌, ◌≤◌, ℕ, zero, suc, ◌+◌, ◌-◌, ◌^◌, max, min, List, [], ◌∷◌, length, map, replicate, refl, sym, ap, subst, ◌∙◌, arith, slice_index}
use Rattle.std.proofs.lemmas.List.{length-map}
use Rattle.std.specs.List.{All}
use Rattle.std.proofs.lemmas.List.Elements.{All-head, All-tail, All-weaker}
use Rattle.packet_fields.specs.declared.field.Field.{Field}
use Rattle.element_lang.specs.Tree.{ExprTree, StmtTree, BodyTree}
use Rattle.element_lang.specs.Tree.StmtTree.{choose, repeat}
use Rattle.element_lang.specs.View.{tree}
use Rattle.element_print.specs.Depths.{expr_depth, body_depth, text_depth}
use Rattle.element_print.specs.Lengths.{capped}
use Rattle.element_chain.specs.declared.chain.Wire.{Wire}
use Rattle.element_chain.specs.declared.chain.Target.{Target}
use Rattle.element_chain.specs.declared.chain.Target.TheVariants.{Element, Out}
use Rattle.element_chain.specs.Chain.{Connected, element_at}
use Rattle.element_chain.specs.Compose.{wires_of, clearing, composed}
use Rattle.element_chain.specs.Wiring.{IsWithin, AreWithin}
use Rattle.chain_compose.specs.declared.parts.Parts.{Parts}
use Rattle.chain_compose.specs.Parts.{chain_of}
use Rattle.chain_compose.specs.Depths.{placed_depth, tests_depth, element_depth, clearing_depth, end_depth, all_decls_depth}
use Rattle.chain_compose.specs.SendLevels.{further_in, stmt_level, level_in, IsOwn, port_depth, has_wires, with_tests, told_depth, own_depth, own_level, AreDepths}
use Rattle.chain_compose.proofs.DeepBodies.{whole_depth}
use Rattle.chain_compose.proofs.DeepLevels.{body_as_placed, body_alike, as_suc, element_by_level, level_most}
use Rattle.chain_compose.proofs.RoutesAt.{own_within}

-- ## tests
with_capped : (own level t u : ℕ) → capped t ≡ capped u → capped (with_tests own level t) ≡ capped (with_tests own level u)
with_capped own zero t u h = refl
with_capped own (suc n) t u h = omega (arith, h)

-- numbers that are capped for those of which they are told
pub all_capped : (own level tests : ℕ) → level ≤ suc own → capped (with_tests (capped own) (capped level) (capped tests)) ≡ capped (with_tests own level tests)
all_capped own zero tests most = omega arith
all_capped own (suc n) tests most =
    omega (arith, most, as_suc (capped own) (capped (suc n)) (min n (2 ^ 64 - 2)) (capped tests) (omega arith))

abbrev Agree : (Target → ℕ) → (Target → ℕ) → Wire → Type 0
Agree f g w = capped (f w.to) ≡ capped (g w.to)

tests_capped : (f g : Target → ℕ) (ws : List Wire) → All (Agree f g) ws → capped (tests_depth f ws) ≡ capped (tests_depth g ws)
tests_capped f g [] same = refl
tests_capped f g (w ∷ ws) same =
    omega (arith, All-head (Agree f g) w ws same, tests_capped f g ws (All-tail (Agree f g) w ws same))

-- ## where depths are told
told_target : (c : Connected) (n : ℕ) (depths : List ℕ) → AreDepths c n depths → (t : Target) → IsWithin (length c.elements) t → capped (told_depth depths t) ≡ capped (end_depth c n t)
told_target c zero depths are Out within = refl
told_target c (suc n) depths are Out within = refl
told_target c n depths are (Element e) within = omega (arith, are.each e within)

-- an element before those that are told of
told_element : (c : Connected) (n : ℕ) (depths : List ℕ) → AreWithin (length c.elements) c.wires → AreDepths c n depths → (e : ℕ)
    → capped (element_depth c (told_depth depths) e) ≡ capped (element_depth c (end_depth c n) e)
told_element c n depths within are e =
    let count = length c.elements in
    let ws = wires_of c.wires e in
    let tests = tests_capped (told_depth depths) (end_depth c n) ws
    (All-weaker (λ (w : Wire). IsWithin count w.to) (Agree (told_depth depths) (end_depth c n)) (λ w there. told_target c n depths are w.to there) ws
    (own_within c.wires count e within)) in
    ap capped (element_by_level c (told_depth depths) e)
    ∙ with_capped (own_depth c e) (own_level c e) (tests_depth (told_depth depths) ws) (tests_depth (end_depth c n) ws) tests
    ∙ sym (ap capped (element_by_level c (end_depth c n) e))

-- through one element more
pub next_depth : (c : Connected) (n : ℕ) (depths : List ℕ) → AreWithin (length c.elements) c.wires → AreDepths c n depths → (e : ℕ)
    → capped (max (clearing_depth c) (element_depth c (told_depth depths) e)) ≡ capped (end_depth c (suc n) (Element e))
next_depth c n depths within are e = omega (arith, told_element c n depths within are e)

-- ## in the code
further_capped : (n k : ℕ) → capped n ≡ capped k → capped (further_in n) ≡ capped (further_in k)
further_capped zero zero same = refl
further_capped zero (suc k) same = absurd (omega (arith, same))
further_capped (suc n) zero same = absurd (omega (arith, same))
further_capped (suc n) (suc k) same = omega (arith, same)

-- the level within two blocks, and within one
pub level_of_blocks : (s : StmtTree) (test : ExprTree) (first second : BodyTree) (a b level result : ℕ) → s ≡ choose test first second → a ≡ capped (level_in first) → b ≡ capped (level_in second)
    → level ≡ max a b → result ≡ capped (further_in level) → result ≡ capped (stmt_level s)
level_of_blocks s test first second a b level result is a_is b_is level_is result_is =
    result_is ∙ further_capped level (max (level_in first) (level_in second)) (omega (arith, a_is, b_is, level_is)) ∙ ap (λ (t : StmtTree). capped (stmt_level t)) (sym is)

pub level_of_block : (s : StmtTree) (index count : ℕ) (body : BodyTree) (level result : ℕ) → s ≡ repeat index count body → level ≡ capped (level_in body)
    → result ≡ capped (further_in level) → result ≡ capped (stmt_level s)
level_of_block s index count body level result is level_is result_is =
    result_is ∙ further_capped level (level_in body) (omega (arith, level_is)) ∙ ap (λ (t : StmtTree). capped (stmt_level t)) (sym is)

-- what is cleared
pub clearing_told : (parts : Parts) (b : BodyTree) (result : ℕ) → b ≡ clearing parts.cleared.now → result ≡ capped (placed_depth (port_depth true) b) → result ≡ capped (clearing_depth (chain_of parts))
clearing_told parts b result is result_is =
    result_is
    ∙ ap capped (body_alike (port_depth true) expr_depth (λ e. refl) b ∙ body_as_placed b)
    ∙ ap (λ (a : BodyTree). capped (body_depth a)) is
    ∙ ap (λ (fs : List Field). capped (body_depth (clearing fs))) parts.written

-- an element's own statements
pub own_told : (c : Connected) (e : ℕ) (ws : List Wire) (wired : Bool) (b : BodyTree) (depth level : ℕ) → ws ≡ wires_of c.wires e → wired ≡ has_wires ws → b ≡ (element_at c.elements e).body
    → depth ≡ capped (placed_depth (port_depth wired) b) → level ≡ capped (level_in b) → IsOwn c e (record { depth = depth; level = level })
own_told c e ws wired b depth level ws_are wired_is b_is depth_is level_is =
    let same : wired ≡ has_wires (wires_of c.wires e) = wired_is ∙ ap has_wires ws_are in
    record {
      depth = depth_is ∙ ap (λ (h : Bool). capped (placed_depth (port_depth h) b)) same ∙ ap (λ (a : BodyTree). capped (placed_depth (port_depth (has_wires (wires_of c.wires e))) a)) b_is;
      level = level_is ∙ ap (λ (a : BodyTree). capped (level_in a)) b_is;
    }

-- an element, by numbers that are told of it
pub element_told : (c : Connected) (depths : List ℕ) (e : ℕ) (ws : List Wire) (own level tests result : ℕ) → ws ≡ wires_of c.wires e
    → own ≡ capped (own_depth c e) → level ≡ capped (own_level c e) → tests ≡ capped (tests_depth (told_depth depths) ws)
    → result ≡ capped (with_tests own level tests) → result ≡ capped (element_depth c (told_depth depths) e)
element_told c depths e ws own level tests result ws_are own_is level_is tests_is result_is =
    let ports = port_depth (has_wires (wires_of c.wires e)) in
    let all = tests_depth (told_depth depths) (wires_of c.wires e) in
    result_is
    ∙ ap (λ (d : ℕ). capped (with_tests d level tests)) own_is
    ∙ ap (λ (l : ℕ). capped (with_tests (capped (own_depth c e)) l tests)) level_is
    ∙ ap (λ (t : ℕ). capped (with_tests (capped (own_depth c e)) (capped (own_level c e)) t)) (tests_is ∙ ap (λ (us : List Wire). capped (tests_depth (told_depth depths) us)) ws_are)
    ∙ all_capped (own_depth c e) (own_level c e) all (level_most ports (element_at c.elements e).body)
    ∙ sym (ap capped (element_by_level c (told_depth depths) e))

pub first_depths : (parts : Parts) (depths : List ℕ) → depths ≡ replicate (length parts.classes.now) 0 → AreDepths (chain_of parts) 0 depths
first_depths parts depths is = record { each = λ e lt. ap (λ (ds : List ℕ). slice_index ds e) is ∙ zero_at (length parts.classes.now) e }
  where
    zero_at : (n e : ℕ) → slice_index (replicate n 0) e ≡ 0
    zero_at zero e = refl
    zero_at (suc n) zero = refl
    zero_at (suc n) (suc e) = zero_at n e

-- wires are within the elements that there are
pub all_within : (parts : Parts) → AreWithin (length parts.classes.now) parts.chain.now.wires → AreWithin (length (chain_of parts).elements) (chain_of parts).wires
all_within parts within = subst (λ (n : ℕ). AreWithin n parts.chain.now.wires) (sym (length-map parts.classes.now tree)) within

-- the whole
pub whole_told : (parts : Parts) (depths : List ℕ) (decls body result : ℕ) → AreWithin (length parts.classes.now) parts.chain.now.wires
    → AreDepths (chain_of parts) (length parts.classes.now) depths → decls ≡ capped (all_decls_depth (map tree parts.classes.now))
    → body ≡ capped (element_depth (chain_of parts) (told_depth depths) 0) → result ≡ max decls (capped (body + 1))
    → result ≡ capped (text_depth (composed (chain_of parts)))
whole_told parts depths decls body result within are decls_are body_is result_is =
    let c = chain_of parts in
    let same : length parts.classes.now ≡ length c.elements = sym (length-map parts.classes.now tree) in
    let all : AreDepths c (length c.elements) depths = subst (λ (n : ℕ). AreDepths c n depths) same are in
    omega (arith, whole_depth c, told_element c (length c.elements) depths (all_within parts within) all 0, decls_are, body_is, result_is)
