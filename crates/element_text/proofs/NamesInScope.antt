-- Which locals and objects go by which names.
use Rattle.std.proofs.Common.{◌≡◌, ℕ, zero, suc, ◌+◌, ◌-◌, ◌≤◌, Bool, true, false, ◌||◌, List, [], ◌∷◌, ◌++◌, map, Option, Some, None, IfSome, is_none, if◌then◌else◌, slice_get, slice_index, refl, sym, ap, subst, ◌∙◌, arith, append_assoc}
use Rattle.std.specs.List.{list_any}
use Rattle.std.specs.Option.{option_or}
use Rattle.std.specs.Str.{bytes_eq}
use Rattle.std.proofs.lemmas.Slice.Eq.{bytes_eq-Decides}
use Rattle.std.proofs.lemmas.Bool.{false≢true}
use Rattle.std.proofs.lemmas.List.{append-nil}
use Rattle.std.proofs.lemmas.Option.{IfSome_then, slice_get_within}
use Rattle.state_store.specs.declared.object.ObjectDecl.{ObjectDecl}
use Rattle.element_lang.specs.declared.tree.Local.{Local}
use Rattle.element_lang.specs.Tree as trees
use Rattle.element_lang.specs.Tree.{BodyTree, Tree}
use Rattle.element_lang.specs.Rules.{is_empty}
use Rattle.element_lang.specs.Surface.{name_of_object, named_body}
use Rattle.element_text.specs.Resolve.{Known, Env, local_in, object_from, with_locals, is_done}
use Rattle.element_text.proofs.Optional.{Gives}
use Rattle.lemmas.proofs.Lists.{bytes_eq_true}

-- ## Words

pub word_same : (a b : List ℕ) → a ≡ b → bytes_eq a b ≡ true
word_same a b e = (bytes_eq-Decides a b).1 e

-- ## Tests over lists of numbers

-- where a number stands among others makes no difference
pub any_moved : (p : ℕ → Bool) (xs : List ℕ) (n : ℕ) (ys : List ℕ) → list_any p (xs ++ n ∷ ys) ≡ list_any p (n ∷ (xs ++ ys))
any_moved p [] n ys = refl
any_moved p (x ∷ xs) n ys = ap (λ b. p x || b) (any_moved p xs n ys) ∙ swapped (p x) (p n) (list_any p (xs ++ ys))
  where
    swapped : (a b c : Bool) → (a || (b || c)) ≡ (b || (a || c))
    swapped true true c = refl
    swapped true false c = refl
    swapped false b c = refl

-- ## Lists that only grow

-- each local of the first list stands in the second, at the same place
pub record Keeps (before after : List Local) : Type 0 where
  pub at : (i : ℕ) (l : Local) → slice_get before i ≡ Some l → slice_get after i ≡ Some l

pub keeps_all : (ls : List Local) → Keeps ls ls
keeps_all ls = record { at = λ i l e. e }

pub keeps_on : {a b c : List Local} → Keeps a b → Keeps b c → Keeps a c
keeps_on p q = record { at = λ i l e. q.at i l (p.at i l e) }

push_old : (ls : List Local) (new : Local) (i : ℕ) (l : Local) → slice_get ls i ≡ Some l → slice_get (ls ++ new ∷ []) i ≡ Some l
push_old [] new i l e = absurd (omega (arith, slice_get_within [] i l e))
push_old (x ∷ ls) new zero l e = e
push_old (x ∷ ls) new (suc i) l e = push_old ls new i l e

pub keeps_pushed : (ls : List Local) (new : Local) → Keeps ls (ls ++ new ∷ [])
keeps_pushed ls new = record { at = push_old ls new }

-- the width at a place
pub width_at : (ls : List Local) (i : ℕ) (l : Local) → slice_get ls i ≡ Some l → slice_index (map (λ l. l.width) ls) i ≡ l.width
width_at [] i l e = absurd (omega (arith, slice_get_within [] i l e))
width_at (x ∷ ls) zero l e = cc
width_at (x ∷ ls) (suc i) l e = width_at ls i l e

-- ## Locals in scope

-- what is found behind a first one
behind_first : (b : Bool) (k : Known) (o p r : Option Known) → p ≡ option_or o r → (if b then Some k else p) ≡ option_or (if b then Some k else o) r
behind_first true k o p r e = refl
behind_first false k o p r e = e

-- one more local in scope is found where no other has its name
pub local_in_pushed : (ks : List Known) (k : Known) (word : List ℕ) → local_in (ks ++ k ∷ []) word ≡ option_or (local_in ks word) (local_in (k ∷ []) word)
local_in_pushed [] k word = refl
local_in_pushed (x ∷ ks) k word = behind_first (bytes_eq word x.decl.name) x (local_in ks word) (local_in (ks ++ k ∷ []) word) (local_in (k ∷ []) word) (local_in_pushed ks k word)

-- the one that is found alone has the name
pub alone : (k : Known) (word : List ℕ) → IfSome (local_in (k ∷ []) word) (λ j. (j ≡ k) × (k.decl.name ≡ word))
alone k word = by_test (bytes_eq word k.decl.name) refl
  where
    by_test : (b : Bool) → bytes_eq word k.decl.name ≡ b → IfSome (if b then Some k else None) (λ j. (j ≡ k) × (k.decl.name ≡ word))
    by_test true e = (refl, sym (bytes_eq_true word k.decl.name e))
    by_test false e = tt

pub found_alone : (k : Known) (word : List ℕ) → bytes_eq word k.decl.name ≡ true → local_in (k ∷ []) word ≡ Some k
found_alone k word e = ap (λ b. if b then Some k else None) e

pub none_alone : (k : Known) (word : List ℕ) → bytes_eq word k.decl.name ≡ false → local_in (k ∷ []) word ≡ None
none_alone k word e = ap (λ b. if b then Some k else None) e

-- a local that is alone and has not the name is not found
pub not_alone : (k : Known) (word : List ℕ) → local_in (k ∷ []) word ≡ None → bytes_eq word k.decl.name ≡ false
not_alone k word e = by_test (bytes_eq word k.decl.name) e
  where
    by_test : (b : Bool) → (if b then Some k else None) ≡ None → b ≡ false
    by_test true e = cc
    by_test false e = refl

pub none_from : (o : Option Known) → is_none o ≡ true → o ≡ None
none_from None e = refl
none_from (Some k) e = absurd (false≢true e)

pub none_of_two : (o p : Option Known) → option_or o p ≡ None → (o ≡ None) × (p ≡ None)
none_of_two None p e = (refl, e)
none_of_two (Some k) p e = cc

-- ## What is declared behind others

-- the objects stay, and more locals are in scope
pub record Within (outer inner : Env) : Type 0 where
  pub objects : inner.objects ≡ outer.objects
  pub more : List Known
  pub scope : inner.scope ≡ outer.scope ++ more

pub within_same : (env : Env) → Within env env
within_same env = record { objects = refl; more = []; scope = sym (append-nil env.scope) }

pub within_both : {a b c : Env} → Within a b → Within b c → Within a c
within_both {a = a} h g = record {
  objects = g.objects ∙ h.objects;
  more = h.more ++ g.more;
  scope = g.scope ∙ ap (λ l. l ++ g.more) h.scope ∙ append_assoc a.scope h.more g.more;
}

pub within_to : {a b c : Env} → Within a b → b ≡ c → Within a c
within_to {a = a} h same = let P : Env → Type 0 = λ n. Within a n in subst P same h

-- other locals that are declared change nothing of it
pub within_locals : {a b : Env} (locals : List Local) → Within a b → Within a (with_locals b locals)
within_locals locals h = record { objects = h.objects; more = h.more; scope = h.scope }

-- ## Objects

-- a number under which the object of that name stands
pub object_at : (n : ℕ) (os : List ObjectDecl) (word : List ℕ) → IfSome (object_from n os word) (λ o. (n ≤ o) × (name_of_object (slice_get os (o - n)) ≡ word))
object_at n [] word = tt
object_at n (d ∷ os) word = by_test (bytes_eq word d.name) refl (object_from (n + 1) os word) (object_at (n + 1) os word)
  where
    later : (o : ℕ) → n + 1 ≤ o → name_of_object (slice_get os (o - (n + 1))) ≡ word → (n ≤ o) × (name_of_object (slice_get (d ∷ os) (o - n)) ≡ word)
    later o le e =
        let same : o - n ≡ suc (o - (n + 1)) = omega arith in
        (omega arith, ap (λ i. name_of_object (slice_get (d ∷ os) i)) same ∙ e)

    by_test : (b : Bool) → bytes_eq word d.name ≡ b → (more : Option ℕ) → IfSome more (λ o. (n + 1 ≤ o) × (name_of_object (slice_get os (o - (n + 1))) ≡ word)) → IfSome (if b then Some n else more) (λ o. (n ≤ o) × (name_of_object (slice_get (d ∷ os) (o - n)) ≡ word))
    by_test true e more h =
        let same : n - n ≡ zero = omega arith in
        (omega arith, ap (λ i. name_of_object (slice_get (d ∷ os) i)) same ∙ sym (bytes_eq_true word d.name e))
    by_test false e None h = tt
    by_test false e (Some o) h = later o h.0 h.1

-- the number of the object that has a name
pub object_found : (os : List ObjectDecl) (word : List ℕ) → Gives (object_from 0 os word) (λ o. name_of_object (slice_get os o) ≡ word)
object_found os word = record {
  known = IfSome_then (object_from 0 os word) (object_at 0 os word) (λ o h.
      let same : o ≡ o - 0 = omega arith in
      ap (λ i. name_of_object (slice_get os i)) same ∙ h.1);
}

-- ## Bodies

-- whether a body is empty is seen with names and with numbers
pub empty_same : (m : Tree) (t : BodyTree) → is_done (named_body m t) ≡ is_empty t
empty_same m trees.done = refl
empty_same m (trees.stmt s b) = refl
