-- What the code tells of elements and of levels.
use Rattle.std.proofs.Common.{◌≡◌, ℕ, suc, ◌+◌, ◌-◌, ◌*◌, ◌<◌, Bool, false, List, [], ◌∷◌, ◌++◌, length, drop, slice_index_or, refl, sym, ap, subst, ◌∙◌, arith}
use Rattle.packet_fields.specs.declared.field.Field.TheVariants.{MetaPort}
use Rattle.element_lang.specs.Tree.{BodyTree}
use Rattle.element_print.specs.Lengths.{Lengths, capped, field_length}
use Rattle.element_chain.specs.Chain.{Connected, element_at}
use Rattle.element_chain.specs.Compose.{wires_of, base_of, clearing, composed}
use Rattle.element_chain.specs.Wiring.{AreWithin}
use Rattle.chain_compose.specs.declared.parts.Parts.{Parts}
use Rattle.chain_compose.specs.declared.gauge.Gauge.{Gauge}
use Rattle.chain_compose.specs.declared.figures.Figures.{Figures}
use Rattle.chain_compose.specs.declared.figures.Ending.{Ending}
use Rattle.chain_compose.specs.Counts.{body_count, whole_lengths, closing_count, clearing_count}
use Rattle.chain_compose.specs.Parts.{chain_of}
use Rattle.chain_compose.specs.Tallies.{sent_in, bare_count, after_count, has_wire, all_names, lengths_at, AreFigures, AllFigures, no_figures, no_ending, told_end, AreEndings, IsNext, IsLevel, AreLevels}
use Rattle.chain_compose.proofs.Caps.{capped_again, mul_capped}
use Rattle.chain_compose.proofs.Pushed.{one_longer, each_pushed}
use Rattle.chain_compose.proofs.Rises.{bare_told}
use Rattle.chain_compose.proofs.SentFirst.{clearing_bare}
use Rattle.chain_compose.proofs.Tallied.{next_told, whole_told}

abbrev pub scaled : List ℕ → ℕ → Lengths
scaled objects port = record { locals = []; objects = objects; port = port }

pub figures_told : (g : Gauge) (c : Connected) (e : ℕ) (objects : List ℕ) (wired : Bool) (b : BodyTree) (f : Figures) (once : ℕ)
    → objects ≡ drop (base_of c.elements e) (all_names c) → wired ≡ has_wire (wires_of c.wires e) → b ≡ (element_at c.elements e).body
    → f.own ≡ capped (bare_count g (scaled objects 0) wired b) → once ≡ capped (bare_count g (scaled objects 1) wired b) → f.reads ≡ once - f.own
    → f.sent ≡ capped (sent_in g b) → f.closing ≡ closing_count g b → AreFigures g c e f
figures_told g c e objects wired b f once objects_are wired_is body_is own_is once_is reads_are sent_is closing_is =
    let count : ℕ → ℕ = λ n. bare_count g (scaled objects n) wired b in
    record {
      own = λ port some.
          ap (λ (k : ℕ). capped (f.own + k * port)) (reads_are ∙ ap (λ (k : ℕ). k - f.own) once_is)
          ∙ ap (λ (k : ℕ). capped (k + (capped (count 1) - k) * port)) own_is
          ∙ bare_told g objects wired b port some
          ∙ ap (λ (os : List ℕ). capped (bare_count g (scaled os port) wired b)) objects_are
          ∙ ap (λ (w : Bool). capped (bare_count g (lengths_at c e port) w b)) wired_is
          ∙ ap (λ (t : BodyTree). capped (bare_count g (lengths_at c e port) (has_wire (wires_of c.wires e)) t)) body_is;
      sent = sent_is ∙ ap (λ (t : BodyTree). capped (sent_in g t)) body_is;
      closing = closing_is ∙ ap (closing_count g) body_is;
    }

pub clearing_told : (g : Gauge) (parts : Parts) (names : List ℕ) (b : BodyTree) (result : ℕ) → names ≡ all_names (chain_of parts) → b ≡ clearing parts.cleared.now
    → result ≡ capped (bare_count g (scaled names (field_length MetaPort)) false b) → result ≡ capped (clearing_count g (chain_of parts))
clearing_told g parts names b result names_are body_is result_is =
    let c = chain_of parts in
    result_is
    ∙ ap (λ (os : List ℕ). capped (bare_count g (scaled os (field_length MetaPort)) false b)) names_are
    ∙ ap (λ (t : BodyTree). capped (bare_count g (whole_lengths c) false t)) (body_is ∙ ap clearing parts.written)
    ∙ ap capped (clearing_bare g (whole_lengths c) false _)

-- ## Levels

-- a sum of sums that are capped
pub next_fixed : (cleared all own closing sent after : ℕ) (x behind whole : ℕ) → cleared ≡ capped all → x ≡ capped (sent * capped after) → behind ≡ capped (closing + x) → whole ≡ capped (own + behind)
    → capped (cleared + whole) ≡ capped (all + (own + (closing + sent * after)))
next_fixed cleared all own closing sent after x behind whole cleared_is x_is behind_is whole_is =
    omega (arith, cleared_is, x_is, behind_is, whole_is, mul_capped sent (capped after) sent after refl (capped_again after))

pub more_told : (g : Gauge) (c : Connected) (n : ℕ) (fs : List Figures) (es made : List Ending) → AreWithin (length c.elements) c.wires → AreEndings g c n es
    → AllFigures g c (length c.elements) fs → length made ≡ length c.elements
    → ((e : ℕ) → e < length c.elements → IsNext g c es e (slice_index_or fs e no_figures) (slice_index_or made e no_ending)) → AreEndings g c (suc n) made
more_told g c n fs es made within are figures many each = record {
  count = many;
  each = λ e input there.
      next_told g c n es within are e (slice_index_or fs e no_figures) (figures.each e there) (slice_index_or made e no_ending) (each e there) input;
}

-- the whole, in sums that are capped
pub entry_told : (g : Gauge) (c : Connected) (fs : List Figures) (es : List Ending) (f : Figures) (x y z result : ℕ) → AreWithin (length c.elements) c.wires
    → AreEndings g c (length c.elements) es → AllFigures g c (length c.elements) fs → 0 < length c.elements → slice_index_or fs 0 no_figures ≡ f
    → x ≡ capped (f.reads * field_length MetaPort) → y ≡ capped (f.sent * capped (after_count g (told_end g es) (wires_of c.wires 0))) → z ≡ capped (f.own + x) → result ≡ capped (z + y)
    → result ≡ capped (body_count g (whole_lengths c) (composed c).body)
entry_told g c fs es f x y z result within are figures some is x_is y_is z_is result_is =
    let after = after_count g (told_end g es) (wires_of c.wires 0) in
    let read = f.reads * field_length MetaPort in
    let own : AreFigures g c 0 f = subst (λ (k : Figures). AreFigures g c 0 k) is (figures.each 0 some) in
    let product = mul_capped f.sent (capped after) f.sent after refl (capped_again after) in
    let same : result ≡ capped ((f.own + read) + f.sent * after) = omega (arith, x_is, y_is, z_is, result_is, product) in
    same ∙ whole_told g c es within are f own

pub no_levels : (g : Gauge) (c : Connected) → AreLevels g c 0 []
no_levels g c = record { many = refl; each = λ n below. absurd (omega (arith, below)) }

pub level_pushed : (g : Gauge) (c : Connected) (count : ℕ) (levels levels' : List (List ℕ)) (level : List ℕ) → levels' ≡ levels ++ level ∷ [] → AreLevels g c count levels → IsLevel g c count level
    → AreLevels g c (count + 1) levels'
level_pushed g c count levels levels' level is are here = record {
  many = one_longer (List ℕ) levels levels' level count is are.many;
  each = each_pushed (List ℕ) (IsLevel g c) levels levels' level [] count is are.many are.each here;
}

-- one turn of a loop over levels
pub more_again : (g : Gauge) (c : Connected) (n : ℕ) (es es' made : List Ending) → es' ≡ es → AreEndings g c n es
    → ((k : ℕ) → AreEndings g c k es' → AreEndings g c (suc k) made) → AreEndings g c (n + 1) made
more_again g c n es es' made same are next =
    let level : suc n ≡ n + 1 = omega arith in
    subst (λ (k : ℕ). AreEndings g c k made) level (next n (subst (λ (xs : List Ending). AreEndings g c n xs) (sym same) are))
