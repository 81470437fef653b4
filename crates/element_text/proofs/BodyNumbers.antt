-- How a body of statements is resolved from front to back.
use Rattle.std.proofs.Common.{◌≡◌, ℕ, ◌+◌, ◌<◌, ◌≤◌, Bool, true, false, not, ◌||◌, List, [], ◌∷◌, ◌++◌, length, drop, get_or, map, Option, Some, None, refl, sym, ap, ◌∙◌}
use Rattle.std.specs.Prelude.{IsSome, is_some}
use Rattle.std.proofs.lemmas.List.{at_drop_all, map-append}
use Rattle.element_lang.specs.declared.tree.Stmt.{Stmt}
use Rattle.element_lang.specs.Tree.{StmtTree, BodyTree}
use Rattle.element_lang.specs.Tree.BodyTree.{done, stmt}
use Rattle.element_lang.specs.Rules.{always_ends, ends_always}
use Rattle.element_lang.specs.View.{body_of, stmt_tree, body_tree}
use Rattle.element_lang.specs.Surface as surface
use Rattle.element_grammar.specs.declared.surface.At.{At}
use Rattle.element_grammar.specs.declared.surface.SurfaceStmt.{SurfaceStmt}
use Rattle.element_grammar.specs.Surface.{surface_stmt, surface_body}
use Rattle.element_text.specs.Resolve.{◌>>=◌, when, Env, Made, MadeBody, is_done, made_stmt, made_body}
use Rattle.element_text.proofs.NamesInScope.{Within, within_both}
use Rattle.element_text.proofs.SoundStmts.{made_within}
use Rattle.element_text.proofs.Links.{test_holds}
use Rattle.lemmas.proofs.Lists.{folded_item}

-- ## Statements in front of others

abbrev pub stmts_onto : List StmtTree → BodyTree → BodyTree
stmts_onto [] b = b
stmts_onto (s ∷ ss) b = stmt s (stmts_onto ss b)

stmts_onto_more : (ss : List StmtTree) (s : StmtTree) (b : BodyTree) → stmts_onto (ss ++ s ∷ []) b ≡ stmts_onto ss (stmt s b)
stmts_onto_more [] s b = refl
stmts_onto_more (u ∷ ss) s b = ap (stmt u) (stmts_onto_more ss s b)

stmts_onto_done : (ss : List StmtTree) → stmts_onto ss done ≡ body_of ss
stmts_onto_done [] = refl
stmts_onto_done (u ∷ ss) = ap (stmt u) (stmts_onto_done ss)

-- a body ends a run where its last statement does
ends_last : (ss : List StmtTree) (s : StmtTree) → ends_always (body_of (ss ++ s ∷ [])) ≡ always_ends s
ends_last [] s = refl
ends_last (u ∷ []) s = refl
ends_last (u ∷ v ∷ ss) s = ends_last (v ∷ ss) s

-- these statements, and behind them others, if there are any
abbrev pub in_front : List StmtTree → Option MadeBody → Option MadeBody
in_front ss None = None
in_front ss (Some r) = Some (record { tree = stmts_onto ss r.tree; locals = r.locals })

-- one statement in front of others
abbrev pub join : StmtTree → Option MadeBody → Option MadeBody
join t o = o >>= (λ rest. Some (record { tree = stmt t rest.tree; locals = rest.locals }))

in_front_more : (ss : List StmtTree) (t : StmtTree) (c : Bool) (o : Option MadeBody) → in_front (ss ++ t ∷ []) (when c o) ≡ in_front ss (when c (join t o))
in_front_more ss t false o = refl
in_front_more ss t true None = refl
in_front_more ss t true (Some r) = ap (λ x. Some (record { tree = x; locals = r.locals })) (stmts_onto_more ss t r.tree)

-- what is left of a body, where the last statement in front of it ends a run or does not
abbrev pub left_body : Env → Bool → surface.SurfaceBody → Option MadeBody
left_body env ended b = when (not ended || is_done b) (made_body env b)

-- the first of what is left
left_first : (env : Env) (ended : Bool) (at : ℕ) (s : surface.SurfaceStmt) (b : surface.SurfaceBody) (m : Made) → ended ≡ false → made_stmt env s ≡ Some m → left_body env ended (surface.stmt at s b) ≡ when (not (always_ends m.tree) || is_done b) (join m.tree (made_body m.env b))
left_first env ended at s b m e h =
    ap (λ x. left_body env x (surface.stmt at s b)) e ∙ ap (λ o. o >>= (λ first. when (not (always_ends first.tree) || is_done b) (join first.tree (made_body first.env b)))) h

left_done : (env : Env) (ended : Bool) → left_body env ended surface.done ≡ Some (record { tree = done; locals = env.locals })
left_done env true = refl
left_done env false = refl

-- the statements that were made and those that are left are all
pub record Numbering (text : List ℕ) (start env : Env) (made : List Stmt) (left all : List (At SurfaceStmt)) : Type 0 where
  pub told : in_front (map stmt_tree made) (left_body env (ends_always (body_tree made)) (surface_body text left)) ≡ made_body start (surface_body text all)
  pub within : Within start env

front_there : (ss : List StmtTree) (o : Option MadeBody) → IsSome (in_front ss o) → IsSome o
front_there ss None e = e
front_there ss (Some r) e = refl

not_ended : (b : Bool) → (not b || false) ≡ true → b ≡ false
not_ended true e = cc
not_ended false e = refl

module _ {text : List ℕ} {start env : Env} {made : List Stmt} {all : List (At SurfaceStmt)} (at : ℕ) (u : At SurfaceStmt) (within : at < length all) (item : u ≡ get_or all at u)
    (h : Numbering text start env made (drop at all) all) (there : IsSome (made_body start (surface_body text all))) where
  abbrev ended : Bool
  ended = ends_always (body_tree made)

  abbrev rest : surface.SurfaceBody
  rest = surface_body text (drop (at + 1) all)

  split : in_front (map stmt_tree made) (left_body env ended (surface_body text (drop at all))) ≡ in_front (map stmt_tree made) (left_body env ended (surface.stmt u.at (surface_stmt text u.item) rest))
  split = folded_item (λ l. in_front (map stmt_tree made) (left_body env ended (surface_body text l))) all at u within item

  left_there : IsSome (left_body env ended (surface.stmt u.at (surface_stmt text u.item) rest))
  left_there = front_there (map stmt_tree made) _ (ap is_some (sym split ∙ h.told) ∙ there)

  goes : ended ≡ false
  goes = not_ended ended (test_holds (not ended || false) _ left_there)

  -- one more statement
  pub numbering_more : {new : List Stmt} (s : Stmt) (next : Env) → made_stmt env (surface_stmt text u.item) ≡ Some (record { tree = stmt_tree s; env = next }) → new ≡ made ++ s ∷ [] → Numbering text start next new (drop (at + 1) all) all
  numbering_more {new = new} s next numbered pushed =
      let t = stmt_tree s in
      let m : Made = record { tree = t; env = next } in
      let pushed_trees : map stmt_tree new ≡ map stmt_tree made ++ t ∷ [] = ap (map stmt_tree) pushed ∙ map-append stmt_tree made (s ∷ []) in
      let is : ends_always (body_tree new) ≡ always_ends t = ap (λ l. ends_always (body_of l)) pushed_trees ∙ ends_last (map stmt_tree made) t in
      record {
        told = ap (λ l. in_front l (left_body next (ends_always (body_tree new)) rest)) pushed_trees ∙ ap (λ x. in_front (map stmt_tree made ++ t ∷ []) (left_body next x rest)) is
            ∙ in_front_more (map stmt_tree made) t (not (always_ends t) || is_done rest) (made_body next rest)
            ∙ ap (in_front (map stmt_tree made)) (sym (left_first env ended u.at (surface_stmt text u.item) rest m goes numbered)) ∙ sym split ∙ h.told;
        within = within_both h.within (made_within env (surface_stmt text u.item) m numbered);
      }

-- no statement is left
pub numbering_end : {text : List ℕ} {start env : Env} {made : List Stmt} {all : List (At SurfaceStmt)} (at : ℕ) → length all ≤ at → Numbering text start env made (drop at all) all → made_body start (surface_body text all) ≡ Some (record { tree = body_tree made; locals = env.locals })
numbering_end {text = text} {start = start} {env = env} {made = made} {all = all} at past h =
    let none = at_drop_all (λ l. in_front (map stmt_tree made) (left_body env (ends_always (body_tree made)) (surface_body text l))) all at past in
    sym h.told ∙ none ∙ ap (in_front (map stmt_tree made)) (left_done env (ends_always (body_tree made))) ∙ ap (λ x. Some (record { tree = x; locals = env.locals })) (stmts_onto_done (map stmt_tree made))
