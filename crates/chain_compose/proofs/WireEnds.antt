-- What stands for a `send`, and at the end of a wire.
use Rattle.std.proofs.Common.{◌≡◌, ◌<◌, ◌≤◌, ℕ, zero, suc, ◌-◌, Bool, true, false, cond, List, [], ◌∷◌, ◌++◌, length, take, drop as drop_first, slice_index_or, Some, refl, sym, ap, ◌∙◌, arith}
use Rattle.std.specs.List.{filter}
use Rattle.std.proofs.lemmas.List.{take_all}
use Rattle.gal_bits.specs.declared.op.Op.TheVariants.{Eq}
use Rattle.packet_fields.specs.Table.{all_fields}
use Rattle.element_lang.specs.declared.tree.Stmt.{Stmt}
use Rattle.element_lang.specs.declared.tree.Middlebox.{Middlebox}
use Rattle.element_lang.specs.Tree.{ExprTree, StmtTree, BodyTree, Tree}
use Rattle.element_lang.specs.Tree.ExprTree.{lit, local, apply}
use Rattle.element_lang.specs.Tree.StmtTree.{let_local, choose, send, drop}
use Rattle.element_lang.specs.Tree.BodyTree.{stmt}
use Rattle.element_lang.specs.Rules.{ends_always}
use Rattle.element_lang.specs.View.{tree, stmt_tree, body_tree}
use Rattle.element_lang.specs.Widths.{local_widths}
use Rattle.element_chain.specs.declared.chain.Wire.{Wire}
use Rattle.element_chain.specs.declared.chain.Target.TheVariants.{Element, Out}
use Rattle.element_chain.specs.Chain.{Connected}
use Rattle.element_chain.specs.Compose.{followed, one, Placed, Written, Spot, Ends, body_placed, tests, sent_by, clearing, closed, is_set, ends_within, two}
use Rattle.chain_compose.specs.declared.parts.Parts.{Parts}
use Rattle.chain_compose.specs.declared.parts.Place.{Place}
use Rattle.chain_compose.specs.Parts.{chain_of, own_tree, spot_of, ends_of, sends_of, numbering, placed, written, placed_behind, written_behind, element_written}
use Rattle.chain_compose.proofs.Trees.{followed_assoc, body_push, no_tree}

-- statements and widths
abbrev both : BodyTree → List ℕ → Written
both b widths = record { body = b; widths = widths }

-- one statement is pushed
pub pushed_one : (out out' : List Stmt) (s : Stmt) (t : StmtTree) (widths widths' : List ℕ) (w : Written) → out' ≡ out ++ s ∷ [] → stmt_tree s ≡ t
    → w ≡ both (one t) widths' → widths ≡ widths' → written widths out' ≡ written_behind out w
pushed_one out out' s t widths widths' w is tree_is made same =
    ap (λ (ws : List ℕ). written ws out') same
    ∙ ap (λ (ss : List Stmt). both (body_tree ss) widths') is
    ∙ ap (λ (b : BodyTree). both b widths') (body_push out s ∙ ap (λ (u : StmtTree). followed (body_tree out) (one u)) tree_is)
    ∙ ap (written_behind out) (sym made)

-- ## an element
abbrev with_tree : Parts → Place → List ℕ → Tree → Spot → Written
with_tree parts place widths m spot =
    let own = body_placed spot (sends_of parts place) m.body (numbering [] widths) in
    both (closed m.body own.body) own.numbering.widths

abbrev spot_with : Parts → Place → Tree → Spot
spot_with parts place m = record { widths = local_widths m; base = (spot_of parts place).base; port = place.port }

pub no_element_written : (parts : Parts) (place : Place) (widths : List ℕ) → length parts.classes.now ≤ place.element → element_written parts place widths ≡ both (one drop) widths
no_element_written parts place widths past =
    ap (λ (m : Tree). with_tree parts place widths m (spot_with parts place m)) (no_tree parts.classes.now place.element past)

-- the body is put, and a `drop` behind it where it may go on
pub closed_put : (parts : Parts) (place : Place) (widths widths' names' : List ℕ) (out out' out'' : List Stmt) (m : Middlebox) (b : BodyTree)
    → own_tree parts place ≡ tree m → b ≡ (tree m).body
    → placed names' widths' out' ≡ placed_behind out (body_placed (spot_of parts place) (sends_of parts place) b (numbering [] widths))
    → body_tree out'' ≡ cond (ends_always b) (body_tree out') (followed (body_tree out') (one drop))
    → written widths' out'' ≡ written_behind out (element_written parts place widths)
closed_put parts place widths widths' names' out out' out'' m b there is put last =
    let own = body_placed (spot_of parts place) (sends_of parts place) b (numbering [] widths) in
    let same : b ≡ (own_tree parts place).body = is ∙ ap (λ (t : Tree). t.body) (sym there) in
    let widths_are : widths' ≡ own.numbering.widths = ap (λ (p : Placed). p.numbering.widths) put in
    let body_is : body_tree out' ≡ followed (body_tree out) own.body = ap (λ (p : Placed). p.body) put in
    ap (λ (ws : List ℕ). both (body_tree out'') ws) widths_are
    ∙ ap (λ (t : BodyTree). both t own.numbering.widths) (last ∙ ap (λ (t : BodyTree). cond (ends_always b) t (followed t (one drop))) body_is ∙ inside (ends_always b) (body_tree out) own.body)
    ∙ ap (λ (c : BodyTree). let o = body_placed (spot_of parts place) (sends_of parts place) c (numbering [] widths) in both (followed (body_tree out) (closed c o.body)) o.numbering.widths) same
  where
    inside : (e : Bool) (a b : BodyTree) → cond e (followed a b) (followed (followed a b) (one drop)) ≡ followed a (cond e b (followed b (one drop)))
    inside true a b = refl
    inside false a b = followed_assoc a b (one drop)

-- ## the end of a wire
pub out_end : (c : Connected) (n input : ℕ) (widths : List ℕ) → ends_within c n Out input widths ≡ both (one (send (lit input 8))) widths
out_end c zero input widths = refl
out_end c (suc n) input widths = refl

pub last_end : (c : Connected) (n e input : ℕ) (widths : List ℕ) → n ≡ 0 → ends_within c n (Element e) input widths ≡ both (one drop) widths
last_end c n e input widths none = ap (λ (k : ℕ). ends_within c k (Element e) input widths) none

pub element_end : (parts : Parts) (place behind : Place) (e input : ℕ) (widths widths' : List ℕ) (out out' out'' : List Stmt) → 0 < place.levels
    → behind ≡ record { element = e; port = Some input; levels = place.levels - 1 }
    → body_tree out' ≡ followed (body_tree out) (clearing parts.cleared.now)
    → written widths' out'' ≡ written_behind out' (element_written parts behind widths)
    → written widths' out'' ≡ written_behind out (ends_of parts place (Element e) input widths)
element_end parts place behind e input widths widths' out out' out'' some is cleared put =
    let level : place.levels ≡ suc (place.levels - 1) = omega (arith, some) in
    let next : Place = record { element = e; port = Some input; levels = place.levels - 1 } in
    let own : Written = element_written parts next widths in
    let fields : clearing parts.cleared.now ≡ clearing (filter (is_set (chain_of parts).elements) all_fields) = ap clearing parts.written in
    put
    ∙ ap (λ (p : Place). written_behind out' (element_written parts p widths)) is
    ∙ ap (λ (b : BodyTree). both (followed b own.body) own.widths) cleared
    ∙ ap (λ (b : BodyTree). both b own.widths) (followed_assoc (body_tree out) (clearing parts.cleared.now) own.body)
    ∙ ap (λ (b : BodyTree). both (followed (body_tree out) (followed b own.body)) own.widths) fields
    ∙ ap (λ (n : ℕ). written_behind out (ends_within (chain_of parts) n (Element e) input widths)) (sym level)

-- ## what stands for a `send`
pub none_sent : (end : Ends) (ws : List Wire) (port : ExprTree) (widths : List ℕ) → length ws ≡ 0 → sent_by end ws port widths ≡ both (one drop) widths
none_sent end [] port widths none = refl
none_sent end (w ∷ ws) port widths none = absurd (omega (arith, none))

some_sent : (end : Ends) (ws : List Wire) (port : ExprTree) (widths : List ℕ) → 0 < length ws
    → sent_by end ws port widths ≡ (let tested = tests end (length widths) ws (widths ++ 8 ∷ []) in both (stmt (let_local (length widths) port) tested.body) tested.widths)
some_sent end [] port widths some = absurd (omega (arith, some))
some_sent end (w ∷ ws) port widths some = refl

pub sent_put : (end : Ends) (ws all : List Wire) (port : ExprTree) (v : ℕ) (widths widths' widths'' : List ℕ) (out out' out'' : List Stmt) (s : Stmt) → 0 < length ws → ws ≡ all
    → v ≡ length widths → widths' ≡ widths ++ 8 ∷ [] → out' ≡ out ++ s ∷ [] → stmt_tree s ≡ let_local v port
    → written widths'' out'' ≡ written_behind out' (tests end v ws widths')
    → written widths'' out'' ≡ written_behind out (sent_by end all port widths)
sent_put end ws all port v widths widths' widths'' out out' out'' s some are v_is more is tree_is put =
    let tested : Written = tests end v ws widths' in
    put
    ∙ ap (λ (b : BodyTree). both (followed b tested.body) tested.widths) (ap body_tree is ∙ body_push out s ∙ ap (λ (u : StmtTree). followed (body_tree out) (one u)) tree_is)
    ∙ ap (λ (b : BodyTree). both b tested.widths) (followed_assoc (body_tree out) (one (let_local v port)) tested.body)
    ∙ ap (λ (ws' : List ℕ). let t = tests end v ws ws' in both (followed (body_tree out) (stmt (let_local v port) t.body)) t.widths) more
    ∙ ap (λ (k : ℕ). let t = tests end k ws (widths ++ 8 ∷ []) in both (followed (body_tree out) (stmt (let_local k port) t.body)) t.widths) v_is
    ∙ ap (written_behind out) (sym (some_sent end ws port widths some))
    ∙ ap (λ (us : List Wire). written_behind out (sent_by end us port widths)) are

-- ## tests
-- a test is pushed, with the end of its wire and the tests behind it
pub test_put : (end : Ends) (v : ℕ) (w : Wire) (ws all : List Wire) (widths widths' widths'' : List ℕ) (out out' first_body last_body : List Stmt) (s : Stmt) → w ∷ ws ≡ all
    → written widths' first_body ≡ written_behind [] (end w.to w.input widths)
    → written widths'' last_body ≡ written_behind [] (tests end v ws widths')
    → out' ≡ out ++ s ∷ []
    → stmt_tree s ≡ choose (apply Eq 1 (two (local v) (lit w.output 8))) (body_tree first_body) (body_tree last_body)
    → written widths'' out' ≡ written_behind out (tests end v all widths)
test_put end v w ws all widths widths' widths'' out out' first_body last_body s are first rest is tree_is =
    let a : Written = end w.to w.input widths in
    let b : Written = tests end v ws a.widths in
    let now : widths' ≡ a.widths = ap (λ (r : Written). r.widths) first in
    let rest' : written widths'' last_body ≡ b = rest ∙ ap (λ (us : List ℕ). tests end v ws us) now in
    let test : ExprTree = apply Eq 1 (two (local v) (lit w.output 8)) in
    ap (λ (us : List ℕ). both (body_tree out') us) (ap (λ (r : Written). r.widths) rest')
    ∙ ap (λ (t : BodyTree). both t b.widths) (ap body_tree is ∙ body_push out s ∙ ap (λ (u : StmtTree). followed (body_tree out) (one u)) (tree_is ∙ ap (λ (t : BodyTree). choose test t (body_tree last_body)) (ap (λ (r : Written). r.body) first) ∙ ap (λ (t : BodyTree). choose test a.body t) (ap (λ (r : Written). r.body) rest')))
    ∙ ap (λ (us : List Wire). written_behind out (tests end v us widths)) are

pub no_test_put : (end : Ends) (v : ℕ) (all : List Wire) (widths : List ℕ) (out out' : List Stmt) (s : Stmt) → length all ≡ 0 → out' ≡ out ++ s ∷ [] → stmt_tree s ≡ drop
    → written widths out' ≡ written_behind out (tests end v all widths)
no_test_put end v [] widths out out' s none is tree_is = pushed_one out out' s drop widths widths (both (one drop) widths) is tree_is refl refl
no_test_put end v (w ∷ ws) widths out out' s none is tree_is = absurd (omega (arith, none))

-- the first wire and those behind it
pub first_and_rest : (ws : List Wire) (d : Wire) → 1 ≤ length ws → slice_index_or ws 0 d ∷ take (length ws - 1) (drop_first 1 ws) ≡ ws
first_and_rest [] d some = absurd (omega (arith, some))
first_and_rest (w ∷ ws) d some = ap (λ (us : List Wire). w ∷ us) (take_all (suc (length ws) - 1) ws (omega arith))
