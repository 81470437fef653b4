-- The middleboxes of elements, one after the other.
use Rattle.std.proofs.Common.{◌≡◌, ◌<◌, ◌≤◌, ◌+◌, ◌^◌, ℕ, suc, List, [], ◌∷◌, ◌++◌, ◌⊎◌, inl, inr, map, length, take, get_or, Option, Some, IfSome, refl, sym}
use Rattle.std.proofs.Common.{ap, subst, ◌∙◌, append_assoc, length-append, arith, Result, Ok, Err, IfOk, IfErr}
use Rattle.std.specs.Prelude.{slice_get, not, OnOk}
use Rattle.std.specs.List.{All, AllByRecursion as Each}
use Rattle.std.specs.Str.{bytes_eq}
use Rattle.std.proofs.lemmas.List.Elements.{All-append, All-cons, All-nil}
use Rattle.std.proofs.lemmas.List.{take_more, length-take, map-append}
use Rattle.std.proofs.lemmas.Option.{IfSome_then, slice_get_within, slice_get_read}
use Rattle.gal_io.specs.Files.{FilesState}
use Rattle.element_lang.specs.Tree.{Tree}
use Rattle.element_lang.specs.View.{tree}
use Rattle.element_lang.specs.declared.tree.Middlebox.{Middlebox}
use Rattle.element_chain.specs.declared.chain.Element.{Element}
use Rattle.gallium_cli.specs.declared.status.Status.TheVariants as statuses
use Rattle.gallium_cli.specs.declared.refusal.Refusal.{Refusal}
use Rattle.gallium_cli.specs.declared.refusal.Refusal.TheVariants.{NoMemory}
use Rattle.gallium_cli.specs.Roles.{source, size_of, IsFirst, IsGood, IsOnlySource}
use Rattle.gallium_cli.specs.Loads.{LeavesFiles, raised_by}
use Rattle.gallium_cli.specs.Chains.{firsts, file_of, class_files, IsPlaceOf, AreClasses, MayReadNext, ReadsNext, IsClassRefused, IsFirstClassRefused}
use Rattle.gallium_cli.specs.Chains.{IsNextRefused}
use Rattle.gallium_cli.specs.Causes.{reads_after}
use Rattle.gallium_cli.proofs.Files.{class_later, told_before}
use Rattle.gallium_cli.proofs.Firsts.{files_begin, files_known, files_new, placed_among, none_among, place_here, no_place_here}
use Rattle.lemmas.proofs.Lists.{each_filter, each_map, each_weaker, get_before_pushed, get_front, get_pushed, get_within, map_get}

-- ## One more in a list

got_front : {X : Type 0} (xs ys : List X) (k : ℕ) (x : X) → slice_get xs k ≡ Some x → slice_get (xs ++ ys) k ≡ Some x
got_front xs ys k x there = get_front xs ys k (slice_get_within xs k x there) ∙ there

-- an element at a place has its middlebox at the same place of as many
pub same_place : (es : List Element) (ms : List Tree) (e : ℕ) (x : Element) → length ms ≡ length es
    → slice_get es e ≡ Some x → (m : Tree) × (slice_get ms e ≡ Some m)
same_place es ms e x count there = let lt = slice_get_within es e x there in get_within ms e (omega arith)

-- ## One more middlebox

abbrev Spells : (List ℕ → Option (List ℕ)) → List ℕ → Tree → Type 0
Spells told class m = IfSome (told (file_of class)) (λ text. (length text ≤ size_of source) × IsOnlySource text m)

-- it has the class of the last element, and those of that class before it have the same middlebox
abbrev SameBefore : List Element → List Tree → Element → Tree → Type 0
SameBefore es ms x m = (e : ℕ) (y : Element) → slice_get es e ≡ Some y → y.class ≡ x.class → slice_get ms e ≡ Some m

each_more : (told : List ℕ → Option (List ℕ)) (es : List Element) (ms : List Tree) (x : Element) (m : Tree)
    → AreClasses told es ms → Spells told x.class m → (e : ℕ) (y : Element) (k : Tree)
    → slice_get (es ++ x ∷ []) e ≡ Some y → slice_get (ms ++ m ∷ []) e ≡ Some k → Spells told y.class k
each_more told es ms x m are spelled e y k there here =
    by_place (get_before_pushed es x y e there) (get_before_pushed ms m k e here)
  where
    by_place : ((e ≡ length es) × (x ≡ y)) ⊎ (slice_get es e ≡ Some y)
        → ((e ≡ length ms) × (m ≡ k)) ⊎ (slice_get ms e ≡ Some k) → Spells told y.class k
    by_place (inl last) (inl end) =
        subst (λ (z : Element). Spells told z.class k) last.1 (subst (λ (t : Tree). Spells told x.class t) end.1 spelled)
    by_place (inl last) (inr before) =
        let lt = slice_get_within ms e k before in let count = are.count in let at = last.0 in absurd (omega arith)
    by_place (inr before) (inl end) =
        let lt = slice_get_within es e y before in let count = are.count in let at = end.0 in absurd (omega arith)
    by_place (inr one) (inr two) = are.each e y k one two

same_more : (told : List ℕ → Option (List ℕ)) (es : List Element) (ms : List Tree) (x : Element) (m : Tree)
    → AreClasses told es ms → SameBefore es ms x m → (d e : ℕ) (y z : Element)
    → slice_get (es ++ x ∷ []) d ≡ Some y → slice_get (es ++ x ∷ []) e ≡ Some z
    → y.class ≡ z.class → slice_get (ms ++ m ∷ []) d ≡ slice_get (ms ++ m ∷ []) e
same_more told es ms x m are before d e y z there here same =
    by_place (get_before_pushed es x y d there) (get_before_pushed es x z e here)
  where
    at_end : (n : ℕ) → n ≡ length es → slice_get (ms ++ m ∷ []) n ≡ Some m
    at_end n at =
        subst (λ k. slice_get (ms ++ m ∷ []) k ≡ Some m) (are.count ∙ sym at) (get_pushed ms m)

    is_there : (n : ℕ) (w : Element) → slice_get es n ≡ Some w → (k : Tree) × (slice_get ms n ≡ Some k)
    is_there n w one = same_place es ms n w are.count one

    by_place : ((d ≡ length es) × (x ≡ y)) ⊎ (slice_get es d ≡ Some y)
        → ((e ≡ length es) × (x ≡ z)) ⊎ (slice_get es e ≡ Some z)
        → slice_get (ms ++ m ∷ []) d ≡ slice_get (ms ++ m ∷ []) e
    by_place (inl one) (inl two) = at_end d one.0 ∙ sym (at_end e two.0)
    by_place (inl one) (inr two) =
        at_end d one.0
        ∙ sym (got_front ms (m ∷ []) e m (before e z two (sym same ∙ ap (λ (w : Element). w.class) (sym one.1))))
    by_place (inr one) (inl two) =
        got_front ms (m ∷ []) d m (before d y one (same ∙ ap (λ (w : Element). w.class) (sym two.1)))
        ∙ sym (at_end e two.0)
    by_place (inr one) (inr two) =
        let k = is_there d y one in
        got_front ms (m ∷ []) d k.0 k.1
        ∙ sym (got_front ms (m ∷ []) e k.0 (sym (are.same d e y z one two same) ∙ k.1))

classes_more : (told : List ℕ → Option (List ℕ)) (es : List Element) (ms : List Tree) (x : Element) (m : Tree)
    → AreClasses told es ms → Spells told x.class m → SameBefore es ms x m
    → AreClasses told (es ++ x ∷ []) (ms ++ m ∷ [])
classes_more told es ms x m are spelled before = record {
  count = let one = length-append ms (m ∷ []) in let two = length-append es (x ∷ []) in let count = are.count in omega arith;
  each = each_more told es ms x m are spelled;
  same = same_more told es ms x m are before;
}

-- that of an element of the same class
pub known_class : (told : List ℕ → Option (List ℕ)) (es : List Element) (ms : List Tree) (x : Element) (m : Tree) (e : ℕ)
    → AreClasses told es ms → IsPlaceOf es x.class e → slice_get ms e ≡ Some m
    → AreClasses told (es ++ x ∷ []) (ms ++ m ∷ [])
known_class told es ms x m e are (y, there, same) here =
    classes_more told es ms x m are
    (subst (λ class. Spells told class m) same (are.each e y m there here))
    (λ d z before alike. are.same d e z y before there (alike ∙ sym same) ∙ here)

-- that of a new class
pub new_class : (told : List ℕ → Option (List ℕ)) (es : List Element) (ms : List Tree) (x : Element) (m : Tree)
    → AreClasses told es ms → ((e : ℕ) → IsPlaceOf es x.class e → ⊥)
    → IfSome (told (file_of x.class)) (λ text. (length text ≤ size_of source) × IsOnlySource text m)
    → AreClasses told (es ++ x ∷ []) (ms ++ m ∷ [])
new_class told es ms x m are none spelled =
    classes_more told es ms x m are spelled (λ e y there same. absurd (none e (y, there, same)))

-- ## Files that are good

-- what holds of the files of all elements holds of those of their classes
each_first : (P : List ℕ → Type 0) (ws : List (List ℕ)) → Each P ws → Each P (firsts ws)
each_first P [] all = tt
each_first P (w ∷ ws) all =
    let rest = each_first P ws all.1 in
    (all.0, each_filter P (λ v. not (bytes_eq v w)) (firsts ws) (each_weaker P _ (λ v h other. h) (firsts ws) rest))

each_class : (P : List ℕ → Type 0) (es : List Element)
    → ((e : ℕ) (x : Element) → slice_get es e ≡ Some x → P x.class) → Each P (map (λ (e : Element). e.class) es)
each_class P [] all = tt
each_class P (x ∷ es) all = (all 0 x refl, each_class P es (λ e y. all (suc e) y))

pub each_class_file : (P : List ℕ → Type 0) (es : List Element)
    → ((e : ℕ) (x : Element) → slice_get es e ≡ Some x → P (file_of x.class)) → Each P (class_files es)
each_class_file P es all =
    each_map P file_of (firsts (map (λ (e : Element). e.class) es))
    (each_first (λ w. P (file_of w)) (map (λ (e : Element). e.class) es) (each_class (λ w. P (file_of w)) es all))

-- the files of middleboxes that elements have are good, where they are told
pub classes_good : (told : List ℕ → Option (List ℕ)) (es : List Element) (ms : List Tree) → AreClasses told es ms
    → Each (λ name. IfSome (told name) (IsGood source)) (class_files es)
classes_good told es ms are =
    each_class_file (λ name. IfSome (told name) (IsGood source)) es
    (λ e x there.
    let m = same_place es ms e x are.count there in
    IfSome_then (told (file_of x.class)) (are.each e x m.0 there m.1) (λ text h. (h.0, (m.0, h.1.source))))

-- the first that isn't good, behind those that are
first_behind : {A : Type 0} (IsBefore IsAt : A → Type 0) (before : List A) (x : A) (rest : List A) → Each IsBefore before
    → IsAt x → IsFirst IsBefore IsAt (before ++ x ∷ rest)
first_behind IsBefore IsAt [] x rest all here = inl here
first_behind IsBefore IsAt (y ∷ before) x rest all here =
    inr (all.0, first_behind IsBefore IsAt before x rest all.1 here)

next_refused : (told : List ℕ → Option (List ℕ)) (IsAt : List ℕ → Type 0) (es : List Element) (n : ℕ) (ms : List Tree)
    (name : List ℕ) → AreClasses told (take n es) ms
    → class_files (take (n + 1) es) ≡ class_files (take n es) ++ name ∷ [] → IsAt name
    → IsFirst (λ name. IfSome (told name) (IsGood source)) IsAt (class_files es)
next_refused told IsAt es n ms name are next here =
    let before = class_files (take n es) in
    let begin = files_begin es (n + 1) in
    let all : class_files es ≡ before ++ name ∷ begin.0 =
    begin.1 ∙ ap (λ names. names ++ begin.0) next ∙ append_assoc before (name ∷ []) begin.0 in
    subst (IsFirst (λ name. IfSome (told name) (IsGood source)) IsAt) (sym all)
    (first_behind (λ name. IfSome (told name) (IsGood source)) IsAt before name begin.0
    (classes_good told (take n es) ms are) here)

-- want of memory may come at the first file
no_memory : (refusal : Refusal) (es : List Element) (n : ℕ) (f h : FilesState) → refusal ≡ NoMemory → n < length es
    → IsFirstClassRefused refusal (class_files es) f h
no_memory NoMemory [] n f h is lt = absurd (omega arith)
no_memory NoMemory (x ∷ es) n f h is lt = inl tt
no_memory _ es n f h is lt = cc

-- where there is no middlebox of the next element, the first file is refused that isn't good
pub next_class_refused : (refusal : Refusal) (es : List Element) (n : ℕ) (ms : List Tree) (f g h : FilesState)
    → n < length es → AreClasses f.told (take n es) ms → LeavesFiles statuses.Done f g
    → IsNextRefused refusal (class_files (take n es)) (class_files (take (n + 1) es)) g h
    → IsFirstClassRefused refusal (class_files es) f h
next_class_refused refusal es n ms f g h lt are goes (inl memory) = no_memory refusal es n f h memory lt
next_class_refused refusal es n ms f g h lt are goes (inr (name, next, here)) =
    next_refused f.told (λ name. IsClassRefused refusal name f h) es n ms name are next
    (class_later refusal name f g h goes here)

-- ## The next element

pub placed_within : (es : List Element) (n : ℕ) (class : List ℕ) (e : ℕ) → IsPlaceOf (take n es) class e → e < n
placed_within es n class e (x, there, same) =
    let lt = slice_get_within (take n es) e x there in let long = length-take n es in omega arith

-- elements of which these come first, and the last of those
abbrev pub IsNextOf : List Element → ℕ → List ℕ → Type 0
IsNextOf es n class = (x : Element) × (take (n + 1) es ≡ take n es ++ x ∷ []) × (class ≡ x.class)

pub is_next : (es : List Element) (n : ℕ) (x : Element) (class : List ℕ) → n < length es → class ≡ (get_or es n x).class
    → IsNextOf es n class
is_next es n x class lt named = (get_or es n x, take_more es n x lt, named)

-- its class is that of one before it
pub next_known : (told : List ℕ → Option (List ℕ)) (es : List Element) (known : List Middlebox) (class : List ℕ)
    (k : Middlebox) (m : Tree) (e : ℕ) → IsNextOf es (length known) class
    → AreClasses told (take (length known) es) (map tree known) → IsPlaceOf (take (length known) es) class e
    → k ≡ get_or known e k → m ≡ tree k → AreClasses told (take (length known + 1) es) (map tree known ++ m ∷ [])
next_known told es known class k m e (x, next, named) are placed there same =
    let lt = placed_within es (length known) class e placed in
    let here = map_get tree known e k (slice_get_read known (length known) e k refl lt there) ∙ ap Some (sym same) in
    subst (λ (xs : List Element). AreClasses told xs (map tree known ++ m ∷ [])) (sym next)
    (known_class told (take (length known) es) (map tree known) x m e are
    (place_here (take (length known) es) (take (length known) es) class x.class e refl named placed) here)

pub next_known_files : (es : List Element) (n : ℕ) (class : List ℕ) (e reads : ℕ) → IsNextOf es n class
    → IsPlaceOf (take n es) class e → ReadsNext (class_files (take n es)) (class_files (take (n + 1) es)) reads reads
next_known_files es n class e reads (x, next, named) placed =
    let here = place_here (take n es) (take n es) class x.class e refl named placed in
    inl (ap class_files next ∙ files_known (take n es) x (placed_among (take n es) x.class e here), refl)

-- or a new one
pub next_new : {E : Type 0} (result : Result Middlebox E) (told : List ℕ → Option (List ℕ)) (es : List Element) (n : ℕ)
    (ms : List Tree) (class : List ℕ) → IsNextOf es n class → AreClasses told (take n es) ms
    → ((e : ℕ) → IsPlaceOf (take n es) class e → ⊥)
    → IfOk result (λ m. IfSome (told (file_of class)) (λ text. (length text ≤ size_of source) × IsOnlySource text (tree m)))
    → IfOk result (λ m. AreClasses told (take (n + 1) es) (ms ++ tree m ∷ []))
next_new (Err e) told es n ms class next are none spelled = tt
next_new (Ok m) told es n ms class (x, next, named) are none spelled =
    subst (λ (xs : List Element). AreClasses told xs (ms ++ tree m ∷ [])) (sym next)
    (new_class told (take n es) ms x (tree m) are (no_place_here (take n es) (take n es) class x.class refl named none)
    (subst (λ word. IfSome (told (file_of word)) (λ text. (length text ≤ size_of source) × IsOnlySource text (tree m)))
    named spelled))

pub next_new_files : (es : List Element) (n : ℕ) (class : List ℕ) → IsNextOf es n class
    → ((e : ℕ) → IsPlaceOf (take n es) class e → ⊥)
    → class_files (take (n + 1) es) ≡ class_files (take n es) ++ file_of class ∷ []
next_new_files es n class (x, next, named) none =
    ap class_files next
    ∙ files_new (take n es) x (none_among (take n es) x.class (no_place_here (take n es) (take n es) class x.class refl named none))
    ∙ ap (λ word. class_files (take n es) ++ file_of word ∷ []) (sym named)

-- what is refused, and what is read, of its file
pub next_new_refused : {A : Type 0} (result : Result A Refusal) (before now : List (List ℕ)) (name : List ℕ)
    (f f' : FilesState) → now ≡ before ++ name ∷ [] → IfErr result (λ refusal. IsClassRefused refusal name f f')
    → IfErr result (λ refusal. IsNextRefused refusal before now f f')
next_new_refused (Ok x) before now name f f' next refused = tt
next_new_refused (Err refusal) before now name f f' next refused = inr (name, next, refused)

pub next_new_read : {A E : Type 0} (result : Result A E) (before now : List (List ℕ)) (name : List ℕ) (x y : ℕ)
    → now ≡ before ++ name ∷ [] → OnOk result (y ≡ raised_by 1 x) → OnOk result (ReadsNext before now x y)
next_new_read (Ok v) before now name x y next read = inr (name, next, read)
next_new_read (Err e) before now name x y next read = tt

pub next_new_few : (before now : List (List ℕ)) (name : List ℕ) (x y : ℕ) → now ≡ before ++ name ∷ []
    → (y ≡ x) ⊎ (y ≡ raised_by 1 x) → MayReadNext before now x y
next_new_few before now name x y next (inl same) = inl same
next_new_few before now name x y next (inr read) = inr (name, next, read)

-- ## How often files are read

after_more : (before : List (List ℕ)) (name : List ℕ) (rest : List (List ℕ)) (x y : ℕ) → y ≡ reads_after before x
    → reads_after (before ++ name ∷ rest) x ≡ raised_by (length rest + 1) y
after_more [] name rest x y is = subst (λ n. raised_by (length (name ∷ rest)) x ≡ raised_by (length rest + 1) n) (sym is) (omega arith)
after_more (w ∷ before) name rest x y is =
    let long = length-append before (name ∷ rest) in omega arith

pub reads_next : (before now : List (List ℕ)) (x y z : ℕ) → y ≡ reads_after before x → ReadsNext before now y z
    → z ≡ reads_after now x
reads_next before now x y z is (inl same) = same.1 ∙ is ∙ ap (λ names. reads_after names x) (sym same.0)
reads_next before now x y z is (inr (name, next, read)) =
    let after = after_more before name [] x y is in
    subst (λ names. z ≡ reads_after names x) (sym next) (omega arith)

few_more : (before rest : List (List ℕ)) (x : ℕ) → x < 2 ^ 64 → reads_after before x ≤ reads_after (before ++ rest) x
few_more [] [] x fits = omega arith
few_more [] (name ∷ rest) x fits = omega arith
few_more (w ∷ before) rest x fits = let long = length-append before rest in omega arith

pub few_next : (es : List Element) (n x y z : ℕ) → x < 2 ^ 64 → y ≡ reads_after (class_files (take n es)) x
    → MayReadNext (class_files (take n es)) (class_files (take (n + 1) es)) y z → z ≤ reads_after (class_files es) x
few_next es n x y z fits is (inl same) =
    let begin = files_begin es n in
    let few = few_more (class_files (take n es)) begin.0 x fits in
    subst (λ names. z ≤ reads_after names x) (sym begin.1) (omega arith)
few_next es n x y z fits is (inr (name, next, read)) =
    let begin = files_begin es (n + 1) in
    let after = after_more (class_files (take n es)) name [] x y is in
    let few = few_more (class_files (take n es) ++ name ∷ []) begin.0 x fits in
    subst (λ names. z ≤ reads_after names x) (sym (begin.1 ∙ ap (λ names. names ++ begin.0) next)) (omega arith)

-- ## One more that is known

pub classes_next : (f g : FilesState) (es : List Element) (known now : List Middlebox) (m : Middlebox)
    → now ≡ known ++ m ∷ [] → LeavesFiles statuses.Done f g
    → AreClasses g.told (take (length known + 1) es) (map tree known ++ tree m ∷ [])
    → AreClasses f.told (take (length now) es) (map tree now)
classes_next f g es known now m is goes are =
    let long : length now ≡ length known + 1 = ap length is ∙ length-append known (m ∷ []) in
    let trees : map tree now ≡ map tree known ++ tree m ∷ [] = ap (map tree) is ∙ map-append tree known (m ∷ []) in
    subst (λ n. AreClasses f.told (take n es) (map tree now)) (sym long)
    (subst (λ (ts : List Tree). AreClasses f.told (take (length known + 1) es) ts) (sym trees)
    (told_before (λ told. AreClasses told (take (length known + 1) es) (map tree known ++ tree m ∷ [])) f g goes are))

pub all_next : (P : Middlebox → Type 0) (known now : List Middlebox) (m : Middlebox) → now ≡ known ++ m ∷ []
    → All P known → P m → All P now
all_next P known now m is all here =
    subst (All P) (sym is) (All-append P known (m ∷ []) all (All-cons P m [] here (All-nil P)))

pub reads_more : (es : List Element) (known now : List Middlebox) (m : Middlebox) (x y z : ℕ) → now ≡ known ++ m ∷ []
    → y ≡ reads_after (class_files (take (length known) es)) x
    → ReadsNext (class_files (take (length known) es)) (class_files (take (length known + 1) es)) y z
    → z ≡ reads_after (class_files (take (length now) es)) x
reads_more es known now m x y z is before next =
    let long : length now ≡ length known + 1 = ap length is ∙ length-append known (m ∷ []) in
    subst (λ n. z ≡ reads_after (class_files (take n es)) x) (sym long)
    (reads_next (class_files (take (length known) es)) (class_files (take (length known + 1) es)) x y z before next)
