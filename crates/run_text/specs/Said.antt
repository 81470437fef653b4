-- What a line of a text says, and what the first one does.
use Rattle.std.specs.Prelude.{◌≡◌, ℕ, ◌<◌, Bool, false, not, ◌&&◌, List, ◌∷◌, length, if◌then◌else◌, Result, Ok, Err}
use Rattle.gal_io.specs.Lines.{lines, is_skipped}
use Rattle.run_text.specs.declared.line_value.Said.{Said}
use Rattle.run_text.specs.declared.line_value.Said.TheVariants.{Value, Nothing, End, Wrong}
use Rattle.run_text.specs.declared.refusal.LineKind.{LineKind}
use Rattle.run_text.specs.Trace.{after_drain}

-- The first line of a text spells this value, and ends none; this text stands behind it.
pub record IsFirst {X : Type 0} (ends : List ℕ → Bool) (gives : List ℕ → Result X LineKind) (text : List ℕ) (value : X) (behind : List ℕ) : Type 0 where
  pub line : List ℕ
  pub divides : lines text ≡ line ∷ lines behind
  pub shorter : length behind < length text
  pub told : is_skipped line ≡ false
  pub goes_on : ends line ≡ false
  pub spells : gives line ≡ Ok value

abbrev pub given_said : {X : Type 0} → Result X LineKind → Said X
given_said (Ok value) = Value value
given_said (Err kind) = Wrong kind

-- What a line says, where the values have ended before it, or not: the first line that ends them says so; a line that is
-- skipped says nothing; and behind the end of the values no other may stand.
abbrev pub said_by : {X : Type 0} → (List ℕ → Bool) → (List ℕ → Result X LineKind) → Bool → List ℕ → Said X
said_by ends gives ended line =
    if not ended && ends line then End
    else (if is_skipped line then Nothing else given_said (if ended then after_drain line else gives line))

-- What the first line of a text says, and the text behind it.
pub record IsSaidFirst {X : Type 0} (ends : List ℕ → Bool) (gives : List ℕ → Result X LineKind) (ended : Bool)
    (text : List ℕ) (said : Said X) (behind : List ℕ) : Type 0 where
  pub line : List ℕ
  pub divides : lines text ≡ line ∷ lines behind
  pub shorter : length behind < length text
  pub says : said ≡ said_by ends gives ended line
