-- What stands first for a `send`.
use Rattle.std.proofs.Common.{◌≡◌, ℕ, ◌+◌, ◌*◌, Bool, true, List, [], ◌∷◌, refl, sym, ap, ◌∙◌, arith}
use Rattle.packet_fields.specs.declared.field.Field.{Field}
use Rattle.element_lang.specs.Tree.{ExprTree, StmtTree, BodyTree}
use Rattle.element_lang.specs.Tree.StmtTree.{let_local, repeat, send}
use Rattle.element_print.specs.Lengths.{Lengths, capped}
use Rattle.element_chain.specs.Compose.{cleared, clearing}
use Rattle.chain_compose.specs.declared.figures.Scale.{Scale}
use Rattle.chain_compose.specs.declared.gauge.Gauge.{Gauge}
use Rattle.chain_compose.specs.declared.gauge.Gauge.TheVariants.{Uses, Bytes}
use Rattle.chain_compose.specs.Counts.{weight, turns, stmt_count, body_count, placed_stmt_count}
use Rattle.chain_compose.specs.Tallies.{scale_lengths, let_excess, first_sent, bare_count}
use Rattle.chain_compose.proofs.Caps.{mul_capped, capped_again}

let_more : (g : Gauge) (objects : List ℕ) (port : ℕ) (e : ExprTree) → (let l : Lengths = record { locals = []; objects = objects; port = port } in weight g l (let_local 0 e) ≡ weight g l (send e) + let_excess g)
let_more Uses objects port e = omega arith
let_more Bytes objects port e = omega arith
let_more _ objects port e = refl

pub let_for_send : (s : Scale) (sent : ℕ) (port : ExprTree) → sent ≡ capped (weight s.gauge (scale_lengths s) (send port)) → capped (sent + let_excess s.gauge) ≡ capped (first_sent s.gauge (scale_lengths s) true port)
let_for_send s sent port is =
    omega (arith, is, let_more s.gauge s.objects.now s.port port)

-- nothing is sent where a packet is cleared
pub clearing_bare : (g : Gauge) (l : Lengths) (wired : Bool) (fs : List Field) → bare_count g l wired (clearing fs) ≡ body_count g l (clearing fs)
clearing_bare g l wired [] = refl
clearing_bare g l wired (f ∷ fs) = ap (λ (n : ℕ). stmt_count g l (cleared f) + n) (clearing_bare g l wired fs)

-- a `repeat`, in counts that are capped
pub repeat_told : (g : Gauge) (l : Lengths) (wired : Bool) (s : StmtTree) (index count : ℕ) (b : BodyTree) (own n inner all result : ℕ) → s ≡ repeat index count b
    → own ≡ capped (weight g l s) → n ≡ turns g count → inner ≡ capped (bare_count g l wired b) → all ≡ capped (n * inner) → result ≡ capped (own + all)
    → result ≡ capped (placed_stmt_count g l (first_sent g l wired) s)
repeat_told g l wired s index count b own n inner all result is own_is n_is inner_is all_is result_is =
    let whole = bare_count g l wired b in
    let head = weight g l (repeat index count b) in
    let product = mul_capped n inner (turns g count) whole (ap capped n_is) (ap capped inner_is ∙ capped_again whole) in
    let own_same : own ≡ capped head = own_is ∙ ap (λ (t : StmtTree). capped (weight g l t)) is in
    let same : result ≡ capped (head + turns g count * whole) = omega (arith, own_same, all_is, result_is, product) in
    same
    ∙ ap (λ (t : StmtTree). capped (placed_stmt_count g l (first_sent g l wired) t)) (sym is)
