-- Keywords, symbols and fields are read again as they are printed.
use Rattle.std.proofs.Common.{◌≡◌, ℕ, List, ◌∷◌, ◌++◌, length, nat_lt, Some, refl, true, false}
use Rattle.std.specs.List.{list_all}
use Rattle.packet_fields.specs.declared.field.Field.{Field}
use Rattle.packet_fields.specs.declared.field.Field.TheVariants.{MetaPort}
use Rattle.packet_fields.specs.Table.{row, all_fields}
use Rattle.element_lang.specs.declared.mark.Mark.{Mark}
use Rattle.element_lang.specs.declared.mark.Mark.TheVariants.{Table}
use Rattle.element_lang.specs.Mark.{spelling}
use Rattle.element_lang.specs.Token.{fixed, field, gap, lexeme}

-- what stands behind a printed token
pub data Stop : ℕ → Type 0 where
  space : Stop 32
  feed : Stop 10

mark_before_space : (m : Mark) (bs : List ℕ) → lexeme (spelling m ++ 32 ∷ bs) ≡ Some (record { token = fixed m; len = length (spelling m) })
mark_before_space Table bs = refl
mark_before_space _ bs = refl

mark_before_feed : (m : Mark) (bs : List ℕ) → lexeme (spelling m ++ 10 ∷ bs) ≡ Some (record { token = fixed m; len = length (spelling m) })
mark_before_feed Table bs = refl
mark_before_feed _ bs = refl

pub mark_read : (m : Mark) {b : ℕ} (bs : List ℕ) → Stop b → lexeme (spelling m ++ b ∷ bs) ≡ Some (record { token = fixed m; len = length (spelling m) })
mark_read m bs space = mark_before_space m bs
mark_read m bs feed = mark_before_feed m bs

gap_before_space : (m : Mark) (bs : List ℕ) → gap false (spelling m ++ 32 ∷ bs) ≡ 0
gap_before_space Table bs = refl
gap_before_space _ bs = refl

gap_before_feed : (m : Mark) (bs : List ℕ) → gap false (spelling m ++ 10 ∷ bs) ≡ 0
gap_before_feed Table bs = refl
gap_before_feed _ bs = refl

pub mark_front : (m : Mark) {b : ℕ} (bs : List ℕ) → Stop b → gap false (spelling m ++ b ∷ bs) ≡ 0
mark_front m bs space = gap_before_space m bs
mark_front m bs feed = gap_before_feed m bs

pub mark_ascii : (m : Mark) → list_all (λ b. nat_lt b 128) (spelling m) ≡ true
mark_ascii Table = refl
mark_ascii _ = refl

field_before_space : (f : Field) (bs : List ℕ) → lexeme ((row f).name ++ 32 ∷ bs) ≡ Some (record { token = field f; len = length (row f).name })
unfolding all_fields
field_before_space MetaPort bs = refl
field_before_space _ bs = refl

field_before_feed : (f : Field) (bs : List ℕ) → lexeme ((row f).name ++ 10 ∷ bs) ≡ Some (record { token = field f; len = length (row f).name })
unfolding all_fields
field_before_feed MetaPort bs = refl
field_before_feed _ bs = refl

pub field_read : (f : Field) {b : ℕ} (bs : List ℕ) → Stop b → lexeme ((row f).name ++ b ∷ bs) ≡ Some (record { token = field f; len = length (row f).name })
field_read f bs space = field_before_space f bs
field_read f bs feed = field_before_feed f bs

pub field_front : (f : Field) (bs : List ℕ) → gap false ((row f).name ++ bs) ≡ 0
field_front MetaPort bs = refl
field_front _ bs = refl

pub field_ascii : (f : Field) → list_all (λ b. nat_lt b 128) (row f).name ≡ true
field_ascii MetaPort = refl
field_ascii _ = refl
