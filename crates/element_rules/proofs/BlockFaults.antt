-- How the statements of a block are gone through from front to back.
use Rattle.std.proofs.Common.{Vec, Global, ◌≡◌, ℕ, ◌+◌, ◌<◌, Bool, true, false, ◌||◌, List, [], ◌∷◌, ◌++◌, length, take, drop, get_or, map, Option, Some, None, is_none, refl, sym, ap, ◌∙◌, append_assoc}
use Rattle.std.specs.Option.{is_some}
use Rattle.std.proofs.lemmas.List.{append-nil, take-map, take_at, length-map}
use Rattle.std.specs.Str.{bytes_eq}
use Rattle.indexmap.specs.IndexMap.{insert_entry}
use Rattle.element_lang.specs.declared.tree.Local.{Local}
use Rattle.element_lang.specs.declared.broken.Broken.{Broken}
use Rattle.element_lang.specs.Surface as surface
use Rattle.element_lang.specs.Surface.{let_local, choose, repeat}
use Rattle.element_lang.specs.Broken as broken
use Rattle.element_lang.specs.Broken.{Sight, ◌or_else◌, lowest_broken, stmt_tests, behind, always_ends}
use Rattle.lexer.specs.declared.token.Span.{Span}
use Rattle.element_tokens.specs.Tokens.{span_text}
use Rattle.element_grammar.specs.declared.surface.At.{At}
use Rattle.element_grammar.specs.declared.surface.SurfaceExpr.{SurfaceExpr}
use Rattle.element_grammar.specs.declared.surface.SurfaceStmt.{SurfaceStmt}
use Rattle.element_grammar.specs.declared.surface.SurfaceStmt.TheVariants.{If, Repeat}
use Rattle.element_grammar.specs.declared.surface.SurfaceDecl.{SurfaceDecl}
use Rattle.element_grammar.specs.Surface.{surface_stmt, surface_body}
use Rattle.element_rules.specs.declared.names.Sight as rules
use Rattle.element_rules.specs.declared.statements.StmtFaults.{StmtFaults}
use Rattle.element_rules.specs.Seen.{local_of, sight_of}
use Rattle.element_rules.specs.Faulty.{stmt_faults, tests_of, sight_behind, within_repeat, ended_sight}
use Rattle.element_rules.proofs.Scope.{Entries, local_last}
use Rattle.element_rules.proofs.Levels.{if_level, repeat_level}
use Rattle.lemmas.proofs.Lists.{folded_item}

-- ## The first that is found

pub first_found : (o next : Option Broken) → is_some o ≡ true → (o or_else next) ≡ o
first_found None next e = cc
first_found (Some b) next e = refl

pub next_found : (o next : Option Broken) → is_some o ≡ false → (o or_else next) ≡ next
next_found None next e = refl
next_found (Some b) next e = cc

none_found : (o : Option Broken) → is_some o ≡ false → o ≡ None
none_found None e = refl
none_found (Some b) e = cc

-- ## Locals that go out of scope

cut : (outer inner : List (Vec ℕ Global × ℕ)) (n : ℕ) (more : List Local) → n ≡ length outer → map local_of inner ≡ map local_of
    outer ++ more → map local_of (take n inner) ≡ map local_of outer
cut outer inner n more is longer =
    sym (take-map local_of n inner) ∙ ap (take n) longer ∙ take_at (map local_of outer) more n (length-map outer local_of ∙ sym is)

-- ## A statement does not ask whether one before it has ended the block, but for the last rule

same_faults : (ended : Bool) (sight : Sight) (s : surface.SurfaceStmt) → stmt_faults (ended_sight ended sight) s ≡ stmt_faults sight s
same_faults ended sight (let_local word value) = refl
same_faults ended sight _ = refl

same_bound : (ended : Bool) (sight : Sight) (s : surface.SurfaceStmt) → behind (ended_sight ended sight) s ≡ ended_sight (ended || always_ends s) (sight_behind sight s)
same_bound ended sight (let_local word value) = refl
same_bound ended sight _ = refl

same_within : (ended : Bool) (sight : Sight) (s : surface.SurfaceStmt) → broken.broken_within (ended_sight ended sight) s ≡ broken.broken_within
    (sight_behind sight s) s
same_within ended sight (choose cond first second) =
    let seen : List Local → Sight = λ ls. record { objects = sight.objects; locals = ls; repeated = sight.repeated; ended = false } in
    ap (λ ls. broken.broken_in (seen ls) first or_else broken.broken_in (seen ls) second) (sym (append-nil sight.locals))
same_within ended sight (repeat index count body) =
    ap (λ ls. broken.broken_in (record {
      objects = sight.objects;
      locals = ls ++ record { name = index; width = 32 } ∷ [];
      repeated = true;
      ended = false;
    }) body) (sym (append-nil sight.locals))
same_within ended sight _ = refl

-- ## Names of their own

-- where nothing is broken, no name is taken
untaken : (a b t : Bool) (more : List (ℕ × Bool)) (at : ℕ) → is_some (lowest_broken at ((2, a) ∷ (4, b) ∷ (7, t) ∷ more)) ≡ false → t ≡ false
untaken true b t more at e = cc
untaken false true t more at e = cc
untaken false false true more at e = cc
untaken false false false more at e = refl

-- ## A block

-- The locals of the block stand behind those from outside, and what is left has the first broken statement of all.
pub record Walking (text : List ℕ) (objects : List (At SurfaceDecl)) (before now : rules.Sight) (ended : Bool) (left all : List (At SurfaceStmt)) : Type 0 where
  pub more : List Local
  pub scope : map local_of now.locals.entries ≡ map local_of before.locals.entries ++ more
  pub repeated : now.repeated ≡ before.repeated
  pub told : broken.broken_in (ended_sight ended (sight_of text objects now)) (surface_body text left) ≡ broken.broken_in
      (sight_of text objects before) (surface_body text all)

module _ {text : List ℕ} {objects : List (At SurfaceDecl)} {before now : rules.Sight} {ended : Bool} {all : List (At SurfaceStmt)}
    (at : ℕ) (s : At SurfaceStmt) {faults : StmtFaults} (within : at < length all) (is : s ≡ get_or all at s)
    (h : Walking text objects before now ended (drop at all) all) (faulty : faults ≡ stmt_faults (sight_of text objects now) (surface_stmt text s.item)) where
  abbrev then_seen : Sight
  then_seen = sight_behind (sight_of text objects now) (surface_stmt text s.item)

  abbrev own_parts : Option Broken
  own_parts = lowest_broken s.at (tests_of ended faults)

  abbrev parts_within : Option Broken
  parts_within = broken.broken_within then_seen (surface_stmt text s.item)

  abbrev behind_it : Option Broken
  behind_it = broken.broken_in (ended_sight (ended || always_ends (surface_stmt text s.item)) then_seen)
      (surface_body text (drop (at + 1) all))

  abbrev whole : Option Broken
  whole = broken.broken_in (sight_of text objects before) (surface_body text all)

  split : (own_parts or_else (parts_within or_else behind_it)) ≡ whole
  split =
      let tree = surface_stmt text s.item in
      let seen = sight_of text objects now in
      let rest = surface_body text (drop (at + 1) all) in
      let tests : stmt_tests (ended_sight ended seen) tree ≡ tests_of ended faults = ap (tests_of ended) (same_faults ended seen tree ∙ sym faulty) in
      let inner : broken.broken_within (ended_sight ended seen) tree ≡ parts_within = same_within ended seen tree in
      let next : broken.broken_in (behind (ended_sight ended seen) tree) rest ≡ behind_it =
      ap (λ x. broken.broken_in x rest) (same_bound ended seen tree) in
      sym (sym h.told ∙ folded_item (λ l. broken.broken_in (ended_sight ended seen) (surface_body text l)) all at s within is
      ∙ ap (λ x. lowest_broken s.at x or_else (broken.broken_within (ended_sight ended seen) tree or_else broken.broken_in
      (behind (ended_sight ended seen) tree) rest)) tests
      ∙ ap (λ x. own_parts or_else (x or_else broken.broken_in (behind (ended_sight ended seen) tree) rest)) inner
      ∙ ap (λ x. own_parts or_else (parts_within or_else x)) next)

  -- it breaks a rule itself
  pub own_found : (own : Option Broken) → own ≡ own_parts → is_some own ≡ true → own ≡ whole
  own_found own is_own some = is_own ∙ sym (sym split ∙ first_found own_parts (parts_within or_else behind_it) (ap is_some (sym is_own) ∙ some))

  -- it doesn't, and so its locals have names of their own
  module _ (own : Option Broken) (is_own : own ≡ own_parts) (keeps : is_some own ≡ false) where
    pub none_taken : faults.taken ≡ false
    none_taken = untaken faults.exprs.bad_width faults.exprs.too_large faults.taken _ s.at (ap is_some (sym is_own) ∙ keeps)

    module _ (mid : rules.Sight) (declared : faults.taken ≡ false → sight_of text objects mid ≡ then_seen) where
      same_mid : sight_of text objects mid ≡ then_seen
      same_mid = declared none_taken

      module _ (inner : Option Broken) (is_inner : inner ≡ broken.broken_within (sight_of text objects mid) (surface_stmt text s.item)) where
        inner_parts : inner ≡ parts_within
        inner_parts = is_inner ∙ ap (λ x. broken.broken_within x (surface_stmt text s.item)) same_mid

        later : (parts_within or_else behind_it) ≡ whole
        later = sym (sym split ∙ next_found own_parts (parts_within or_else behind_it) (ap is_some (sym is_own) ∙ keeps))

        -- one inside it does
        pub inner_found : is_some inner ≡ true → inner ≡ whole
        inner_found some = inner_parts ∙ sym (sym later ∙ first_found parts_within behind_it (ap is_some (sym inner_parts) ∙ some))

        -- none does
        pub walking_more : (new : rules.Sight) (ends : Bool) → is_some inner ≡ false → (inner ≡ None → sight_of text objects new ≡ sight_of text objects mid)
            → ends ≡ always_ends (surface_stmt text s.item) → Walking text objects before new (ended || ends) (drop (at + 1) all) all
        walking_more new ends none kept is_end =
            let same = kept (none_found inner none) ∙ same_mid in
            let rest = surface_body text (drop (at + 1) all) in
            let scope = ap (λ (x : Sight). x.locals) same in
            record {
              more = h.more ++ broken.binds (sight_of text objects now) (surface_stmt text s.item);
              scope = scope ∙ ap (λ l. l ++ broken.binds (sight_of text objects now) (surface_stmt text s.item)) h.scope
                  ∙ append_assoc (map local_of before.locals.entries) h.more _;
              repeated = ap (λ (x : Sight). x.repeated) same ∙ h.repeated;
              told = ap (λ b. broken.broken_in (ended_sight (ended || b) (sight_of text objects new)) rest) is_end
                  ∙ ap (λ x. broken.broken_in (ended_sight (ended || always_ends (surface_stmt text s.item)) x) rest) same
                  ∙ sym (sym later ∙ next_found parts_within behind_it (ap is_some (sym inner_parts) ∙ none));
            }

-- and the locals of the block go out of scope
pub walked_out : {text : List ℕ} {objects : List (At SurfaceDecl)} {before now : rules.Sight} {ended : Bool} {left all : List (At SurfaceStmt)}
    (new : rules.Sight) (n : ℕ) → Walking text objects before now ended left all → n ≡ length before.locals.entries
    → new.locals.entries ≡ take n now.locals.entries → new.repeated ≡ now.repeated → sight_of text objects new ≡ sight_of text objects before
walked_out {text = text} {objects = objects} {before = before} {now = now} new n h outer taken same =
    let left = ap (map local_of) taken ∙ cut before.locals.entries now.locals.entries n h.more outer h.scope in
    ap (λ ls. record (sight_of text objects new) { locals = ls }) left ∙ ap (λ b. record (sight_of text objects before) { repeated = b }) (same ∙ h.repeated)

-- ## The blocks inside a statement

module _ (text : List ℕ) (objects : List (At SurfaceDecl)) (seen : rules.Sight) (cond : SurfaceExpr) (yes no : Vec (At SurfaceStmt) Global)
    {source : SurfaceStmt} {yeses : List (At SurfaceStmt)} (is : source ≡ If cond yes no) (yeses_are : yeses ≡ yes.items) where
  in_both : (broken.broken_in (sight_of text objects seen) (surface_body text yeses) or_else broken.broken_in (sight_of text objects seen)
      (surface_body text no.items)) ≡ broken.broken_within (sight_of text objects seen) (surface_stmt text source)
  in_both =
      ap (λ l. broken.broken_in (sight_of text objects seen) (surface_body text l) or_else broken.broken_in (sight_of text objects seen)
      (surface_body text no.items)) yeses_are
      ∙ sym (ap (broken.broken_within (sight_of text objects seen)) (ap (surface_stmt text) is ∙ if_level text cond yes no))

  pub first_block : (found : Option Broken) → found ≡ broken.broken_in (sight_of text objects seen) (surface_body text yeses) → is_some found ≡ true
      → found ≡ broken.broken_within (sight_of text objects seen) (surface_stmt text source)
  first_block found is_found some = is_found ∙ sym (first_found _ _ (ap is_some (sym is_found) ∙ some)) ∙ in_both

  pub second_block : {noes : List (At SurfaceStmt)} (between : rules.Sight) (found : Option Broken) → noes ≡ no.items
      → found ≡ broken.broken_in (sight_of text objects seen) (surface_body text yeses) → is_some found ≡ false
      → (found ≡ None → sight_of text objects between ≡ sight_of text objects seen) → broken.broken_in (sight_of text objects between)
      (surface_body text noes) ≡ broken.broken_within (sight_of text objects seen) (surface_stmt text source)
  second_block {noes = noes} between found noes_are is_found none same =
      ap (λ x. broken.broken_in x (surface_body text noes)) (same (none_found found none))
      ∙ ap (λ l. broken.broken_in (sight_of text objects seen) (surface_body text l)) noes_are
      ∙ sym (next_found _ _ (ap is_some (sym is_found) ∙ none)) ∙ in_both

pub repeated_block : (text : List ℕ) (objects : List (At SurfaceDecl)) (seen : rules.Sight) (index : Span) (count : ℕ)
    (body : Vec (At SurfaceStmt) Global) {source : SurfaceStmt} {statements : List (At SurfaceStmt)}
    → source ≡ Repeat index count body → statements ≡ body.items
    → broken.broken_in (within_repeat (sight_of text objects seen) (span_text text index)) (surface_body text statements) ≡ broken.broken_within
    (sight_of text objects seen) (surface_stmt text source)
repeated_block text objects seen index count body is are =
    ap (λ l. broken.broken_in (within_repeat (sight_of text objects seen) (span_text text index)) (surface_body text l)) are
    ∙ sym (ap (broken.broken_within (sight_of text objects seen)) (ap (surface_stmt text) is ∙ repeat_level text index count body))

-- in a repeat one more local is in scope
pub counting : (text : List ℕ) (objects : List (At SurfaceDecl)) (seen pushed : rules.Sight) (index : Span) (key : Vec ℕ Global) (entries : Entries)
    → span_text text index ≡ key.items → is_none (broken.local_named (map local_of seen.locals.entries) (span_text text index)) ≡ true
    → entries ≡ insert_entry (λ (k j : Vec ℕ Global). bytes_eq k.items j.items) seen.locals.entries key 32
    → pushed.locals.entries ≡ entries → pushed.repeated ≡ true
    → sight_of text objects pushed ≡ within_repeat (sight_of text objects seen) (span_text text index)
counting text objects seen pushed index key entries same free is stored repeats =
    let locals = ap (map local_of) stored ∙ local_last seen.locals.entries key 32 (span_text text index) same free is in
    ap (λ ls. record (sight_of text objects pushed) { locals = ls }) locals
    ∙ ap (λ b. record (within_repeat (sight_of text objects seen) (span_text text index)) { repeated = b }) repeats

-- the local that counts the turns goes out of scope
pub repeated_out : (text : List ℕ) (objects : List (At SurfaceDecl)) (before inside new : rules.Sight) (index : Span) (n : ℕ)
    → sight_of text objects inside ≡ within_repeat (sight_of text objects before) (span_text text index)
    → n ≡ length before.locals.entries → new.locals.entries ≡ take n inside.locals.entries → new.repeated ≡ before.repeated
    → sight_of text objects new ≡ sight_of text objects before
repeated_out text objects before inside new index n same outer taken repeated =
    let scope = ap (λ (x : Sight). x.locals) same in
    let left = ap (map local_of) taken ∙ cut before.locals.entries inside.locals.entries n _ outer scope in
    ap (λ ls. record (sight_of text objects new) { locals = ls }) left ∙ ap (λ b. record (sight_of text objects before) { repeated = b }) repeated
