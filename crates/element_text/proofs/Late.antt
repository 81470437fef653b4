-- What a text is whose tokens spell a surface tree: a source, or refused for its objects, its rules or its sizes, and only one of these.
use Rattle.std.proofs.Common.{◌≡◌, ◌≢◌, inl, inr, Result, Ok, Err, ℕ, ◌-◌, ◌<◌, ◌≤◌, ◌^◌, min, List, length, Some, refl, sym, ap, subst, ◌∙◌, arith}
use Rattle.std.proofs.Math.Nat.{min-le_left}
use Rattle.std.proofs.lemmas.Option.{same_Some}
use Rattle.element_lang.specs.declared.sizes.TheConstants.{MAX_DEPTH, MAX_OBJECTS, MAX_ENTRIES, MAX_WRITES}
use Rattle.element_lang.specs.declared.sizes.What.TheVariants.{Depth, Objects, Entries, Writes}
use Rattle.element_lang.specs.declared.broken.Broken.{Broken}
use Rattle.element_lang.specs.declared.tree.Middlebox.{Middlebox}
use Rattle.element_lang.specs.View.{tree}
use Rattle.element_lang.specs.Token.{Placed, AreTokens}
use Rattle.element_lang.specs.Tree.{Tree}
use Rattle.element_lang.specs.Surface.{Surface}
use Rattle.element_lang.specs.Grammar.{Spells, IsFirstWrong}
use Rattle.element_lang.specs.Broken.{first_broken}
use Rattle.element_lang.specs.Sizes.{entries, writes}
use Rattle.element_lang.specs.Accepted.{deepest, plain, offset_at, IsSpelling, IsSource, HasNames}
use Rattle.element_text.specs.declared.error.TextError.{TextError}
use Rattle.element_text.specs.declared.error.TextError.TheVariants as errors
use Rattle.element_text.specs.Names.{HasSurfaceNames}
use Rattle.element_text.specs.Refused.{IsRefused}
use Rattle.element_text.specs.Reads.{IsAnswer, IsOnlySource, IsOnlyRefused, HasOnlySurface, Keeps, KeepsSizes, IsTooLarge, IsResolved}
use Rattle.element_text.proofs.TokenNames.{tokens_named}
use Rattle.element_text.proofs.SpelledNames.{spelled_names}
use Rattle.element_text.proofs.Refusals.{utf8_whole, none_wrong, moved}
use Rattle.element_text.proofs.KeptRules.{unbroken_kept, one_kept}

-- a count isn't above what it is at most
not_above : (n most have : ℕ) → n ≤ most → have ≡ min n (2 ^ 64 - 1) → most < have → ⊥
not_above n most have low is above = omega (arith, min-le_left n (2 ^ 64 - 1), is, low, above)

module _ (text : List ℕ) (placed : List Placed) (surface : Surface) (h : HasOnlySurface text placed surface) where
  -- what is known of another surface tree of the text is known of this one
  same_surface : (others : List Placed) (other : Surface) → AreTokens text others → Spells (plain others) other → other ≡ surface
  same_surface others other are spells = h.one other (moved text placed h.read (λ ts. Spells ts other) others are spells)

  -- what a text that has this surface tree is refused for
  data Late : TextError → Type 0 where
    objects : (have : ℕ) → have ≡ length surface.objects → MAX_OBJECTS < have → Late (errors.TooLarge Objects have MAX_OBJECTS)
    rule : (number at : ℕ) → length surface.objects ≤ MAX_OBJECTS → first_broken surface ≡ Some (record { rule = number; at = at })
        → Late (errors.Rule number (offset_at text placed (length placed - at)))
    entries_above : (m : Tree) (have : ℕ) → length surface.objects ≤ MAX_OBJECTS → Keeps surface m → have ≡ min (entries m) (2 ^ 64 - 1) → MAX_ENTRIES < have
        → Late (errors.TooLarge Entries have MAX_ENTRIES)
    writes_above : (m : Tree) (have : ℕ) → length surface.objects ≤ MAX_OBJECTS → Keeps surface m → entries m ≤ MAX_ENTRIES → have ≡ min (writes m) (2 ^ 64 - 1)
        → MAX_WRITES < have → Late (errors.TooLarge Writes have MAX_WRITES)

  -- another spelling of the text is one of this tree
  kept : (m : Tree) → IsSpelling text m → (length surface.objects ≤ MAX_OBJECTS) × Keeps surface m
  kept m k =
      let same = same_surface k.placed k.surface k.tokens k.spells in
      let P : Surface → Type 0 = λ s. (length s.objects ≤ MAX_OBJECTS) × Keeps s m in
      subst P same (k.few_objects, record { named = k.named; good = k.good })

  spelling : (m : Tree) → length surface.objects ≤ MAX_OBJECTS → Keeps surface m → IsSpelling text m
  spelling m few k = record {
    utf8 = h.read.utf8;
    placed = placed;
    tokens = h.read.tokens;
    depth = h.depth;
    surface = surface;
    spells = h.spells;
    few_objects = few;
    named = k.named;
    good = k.good;
  }

  late_objects : (have allowed count : ℕ) (other : Surface) → other ≡ surface → have ≡ length other.objects → allowed ≡ MAX_OBJECTS → allowed < have → Late (errors.TooLarge Objects have allowed)
  late_objects have allowed count other same is limit above =
      let P : ℕ → Type 0 = λ n. Late (errors.TooLarge Objects have n) in
      subst P (sym limit) (objects have (is ∙ ap (λ s. length s.objects) same) (omega (arith, limit, above)))

  late_rule : (number at offset : ℕ) (others : List Placed) (other : Surface) → others ≡ placed → other ≡ surface → length other.objects ≤ MAX_OBJECTS
      → first_broken other ≡ Some (record { rule = number; at = at }) → offset ≡ offset_at text others (length others - at) → Late (errors.Rule number offset)
  late_rule number at offset others other placed_same same few first there =
      let P : ℕ → Type 0 = λ n. Late (errors.Rule number n) in
      let is : length other.objects ≡ length surface.objects = ap (λ s. length s.objects) same in
      subst P (sym (there ∙ ap (λ ps. offset_at text ps (length ps - at)) placed_same)) (rule number at (omega (arith, is, few)) (sym (ap first_broken same) ∙ first))

  late_entries : (m : Tree) (have allowed : ℕ) → IsSpelling text m → have ≡ min (entries m) (2 ^ 64 - 1) → allowed ≡ MAX_ENTRIES → allowed < have → Late (errors.TooLarge Entries have allowed)
  late_entries m have allowed k is limit above =
      let P : ℕ → Type 0 = λ n. Late (errors.TooLarge Entries have n) in
      let p = kept m k in
      subst P (sym limit) (entries_above m have p.0 p.1 is (omega (arith, limit, above)))

  late_writes : (m : Tree) (have allowed : ℕ) → IsSpelling text m → entries m ≤ MAX_ENTRIES → have ≡ min (writes m) (2 ^ 64 - 1) → allowed ≡ MAX_WRITES → allowed < have → Late (errors.TooLarge Writes have allowed)
  late_writes m have allowed k few is limit above =
      let P : ℕ → Type 0 = λ n. Late (errors.TooLarge Writes have n) in
      let p = kept m k in
      subst P (sym limit) (writes_above m have p.0 p.1 few is (omega (arith, limit, above)))

  late_of : (e : TextError) → e ≢ errors.NoMemory → IsRefused text e → Late e
  late_of (errors.NotUtf8 m) some k = absurd (utf8_whole h.read.utf8 k)
  late_of (errors.Token m) some k = absurd (h.read.whole m k.none)
  late_of (errors.TooLarge Depth have allowed) some k =
      let low : deepest 0 (plain k.placed) ≤ MAX_DEPTH = subst (λ ps. deepest 0 (plain ps) ≤ MAX_DEPTH) (sym (h.read.only k.placed k.tokens)) h.depth in
      let most = k.most in
      let above = k.above in
      let limit = k.limit in
      absurd (omega arith)
  late_of (errors.TooLarge Objects have allowed) some k = late_objects have allowed 0 k.surface (same_surface k.placed k.surface k.tokens k.spells) k.count k.limit k.above
  late_of (errors.TooLarge Entries have allowed) some k = late_entries k.m have allowed k.spelling k.count k.limit k.above
  late_of (errors.TooLarge Writes have allowed) some k = late_writes k.m have allowed k.spelling k.few_entries k.count k.limit k.above
  late_of (errors.Syntax m) some k =
      absurd (none_wrong (plain placed) k.place surface h.spells (moved text placed h.read (λ ts. IsFirstWrong ts k.place) k.placed k.tokens k.first))
  late_of (errors.Rule number offset) some k =
      late_rule number k.at offset k.placed k.surface (h.read.only k.placed k.tokens) (same_surface k.placed k.surface k.tokens k.spells) k.few_objects k.first k.there
  late_of errors.NoMemory some k = absurd (some refl)

  refused : {e : TextError} → Late e → IsRefused text e
  refused (objects have is above) = record {
    utf8 = h.read.utf8;
    placed = placed;
    tokens = h.read.tokens;
    depth = h.depth;
    surface = surface;
    spells = h.spells;
    count = is;
    limit = refl;
    above = above;
  }
  refused (rule number at few first) = record {
    utf8 = h.read.utf8;
    placed = placed;
    tokens = h.read.tokens;
    depth = h.depth;
    surface = surface;
    spells = h.spells;
    few_objects = few;
    at = at;
    first = first;
    there = refl;
  }
  refused (entries_above m have few k is above) = record { m = m; spelling = spelling m few k; count = is; limit = refl; above = above }
  refused (writes_above m have few k entered is above) = record { m = m; spelling = spelling m few k; few_entries = entered; count = is; limit = refl; above = above }

  -- a tree that breaks a rule is that of no middlebox that keeps them
  broken_kept : (m : Tree) (b : Broken) → Keeps surface m → first_broken surface ≡ Some b → ⊥
  broken_kept m b k first = let none = unbroken_kept surface m k in cc

  one_late : {a b : TextError} → Late a → Late b → a ≡ b
  one_late (objects have is above) (objects other also more) = ap (λ n. errors.TooLarge Objects n MAX_OBJECTS) (is ∙ sym also)
  one_late (objects have is above) (rule number at few first) = absurd (omega (arith, is, few, above))
  one_late (objects have is above) (entries_above m other few k also more) = absurd (omega (arith, is, few, above))
  one_late (objects have is above) (writes_above m other few k entered also more) = absurd (omega (arith, is, few, above))
  one_late (rule number at few first) (objects other also more) = absurd (omega (arith, also, few, more))
  one_late (rule number at few first) (rule other there fewer second) =
      let same : record { rule = number; at = at } ≡ record { rule = other; at = there } = same_Some _ _ (sym first ∙ second) in
      ap (λ (b : Broken). errors.Rule b.rule (offset_at text placed (length placed - b.at))) same
  one_late (rule number at few first) (entries_above m have fewer k is above) = absurd (broken_kept m _ k first)
  one_late (rule number at few first) (writes_above m have fewer k entered is above) = absurd (broken_kept m _ k first)
  one_late (entries_above m have few k is above) (objects other also more) = absurd (omega (arith, also, few, more))
  one_late (entries_above m have few k is above) (rule number at fewer first) = absurd (broken_kept m _ k first)
  one_late (entries_above m have few k is above) (entries_above n other fewer l also more) =
      ap (λ v. errors.TooLarge Entries v MAX_ENTRIES) (is ∙ ap (λ x. min (entries x) (2 ^ 64 - 1)) (one_kept surface m n k l) ∙ sym also)
  one_late (entries_above m have few k is above) (writes_above n other fewer l entered also more) =
      absurd (not_above (entries n) MAX_ENTRIES have entered (is ∙ ap (λ x. min (entries x) (2 ^ 64 - 1)) (one_kept surface m n k l)) above)
  one_late (writes_above m have few k entered is above) (objects other also more) = absurd (omega (arith, also, few, more))
  one_late (writes_above m have few k entered is above) (rule number at fewer first) = absurd (broken_kept m _ k first)
  one_late (writes_above m have few k entered is above) (entries_above n other fewer l also more) =
      absurd (not_above (entries m) MAX_ENTRIES other entered (also ∙ ap (λ x. min (entries x) (2 ^ 64 - 1)) (one_kept surface n m l k)) more)
  one_late (writes_above m have few k entered is above) (writes_above n other fewer l also_entered also more) =
      ap (λ v. errors.TooLarge Writes v MAX_WRITES) (is ∙ ap (λ x. min (writes x) (2 ^ 64 - 1)) (one_kept surface m n k l) ∙ sym also)

  source_not_late : {e : TextError} → Late e → (m : Tree) → IsSource text m → ⊥
  source_not_late late m source = go late (kept m source.spelling).0 (kept m source.spelling).1
    where
      go : {e : TextError} → Late e → length surface.objects ≤ MAX_OBJECTS → Keeps surface m → ⊥
      go (objects have is above) few k = omega (arith, is, few, above)
      go (rule number at fewer first) few k = broken_kept m _ k first
      go (entries_above n have fewer l is above) few k =
          not_above (entries m) MAX_ENTRIES have source.few_entries (is ∙ ap (λ x. min (entries x) (2 ^ 64 - 1)) (one_kept surface n m l k)) above
      go (writes_above n have fewer l entered is above) few k =
          not_above (writes m) MAX_WRITES have source.few_writes (is ∙ ap (λ x. min (writes x) (2 ^ 64 - 1)) (one_kept surface n m l k)) above

  only_late : {e : TextError} → Late e → IsOnlyRefused text e
  only_late late = record { refused = refused late; only = λ other some k. one_late (late_of other some k) late; none = source_not_late late }

  pub many_objects : (have : ℕ) → have ≡ length surface.objects → MAX_OBJECTS < have → IsOnlyRefused text (errors.TooLarge Objects have MAX_OBJECTS)
  many_objects have is above = only_late (objects have is above)

  pub broken_rule : (b : Broken) (offset : ℕ) → length surface.objects ≤ MAX_OBJECTS → first_broken surface ≡ Some b → offset ≡ offset_at text placed (length placed - b.at)
      → IsOnlyRefused text (errors.Rule b.rule offset)
  broken_rule b offset few first there =
      let P : ℕ → Type 0 = λ n. IsOnlyRefused text (errors.Rule b.rule n) in
      subst P (sym there) (only_late (rule b.rule b.at few first))

  only_source : (m : Tree) → length surface.objects ≤ MAX_OBJECTS → Keeps surface m → (HasSurfaceNames surface → HasNames m) → KeepsSizes m → IsOnlySource text m
  only_source m few k names sizes = record {
    source = source;
    only = λ other is. one_kept surface other m (kept other is.spelling).1 k;
    names = names (spelled_names surface h.spells (tokens_named text placed h.read.tokens));
    accepted = λ e some refused. source_not_late (late_of e some refused) m source;
  }
    where
      source : IsSource text m
      source = record { spelling = spelling m few k; few_entries = sizes.entries; few_writes = sizes.writes }

  too_large : (m : Tree) (e : TextError) → length surface.objects ≤ MAX_OBJECTS → Keeps surface m → IsTooLarge m e → IsOnlyRefused text e
  too_large m (errors.TooLarge Entries have allowed) few k (is, limit, above) = only_late (late_entries m have allowed (spelling m few k) is limit above)
  too_large m (errors.TooLarge Writes have allowed) few k (entered, is, limit, above) = only_late (late_writes m have allowed (spelling m few k) entered is limit above)
  too_large m _ few k large = absurd large

  -- the one middlebox of the tree is the answer for the text
  pub middlebox_answer : (r : Result Middlebox TextError) → length surface.objects ≤ MAX_OBJECTS → IsResolved surface r → IsAnswer text r
  middlebox_answer (Ok m) few (k, names, sizes) = only_source (tree m) few k names sizes
  middlebox_answer (Err e) few (inl none) = inl none
  middlebox_answer (Err e) few (inr (m, k, large)) = inr (too_large m e few k large)
