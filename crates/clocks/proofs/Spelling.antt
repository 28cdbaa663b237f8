-- The letters of a name are text. Assumes nothing.
use Rattle.std.proofs.Common.{◌≡◌, ℕ, true, leb, List, [], ◌∷◌, length, Bor, arith}
use Rattle.std.proofs.lemmas.Bool.{and_parts, leb-true}
use Rattle.std.proofs.lemmas.Str.Ascii.{IsAscii-nil, IsAscii-cons}
use Rattle.std.proofs.lemmas.Str.{IsUtf8-from_ascii}
use Rattle.std.specs.Prelude.{Result, Ok, Err, MatchResult}
use Rattle.std.specs.Result.{result_unwrap_or}
use Rattle.std.specs.Str.{IsAscii, IsUtf8}
use Rattle.texts.specs.Lines.{letter}
use Rattle.texts.specs.Numbers.{every}
use Rattle.clocks.specs.declared.name.Name.{Name}
use Rattle.clocks.specs.Texts.{text}

letters_are_ascii : (w : List ℕ) → every letter w ≡ true → IsAscii w
letters_are_ascii [] h = IsAscii-nil
letters_are_ascii (b ∷ bs) h =
    let both = and_parts (letter b) _ h in
    let most = leb-true b 122 (and_parts (leb 97 b) _ both.0).1 in
    IsAscii-cons b bs (omega (arith, most)) (letters_are_ascii bs both.1)

pub names_are_text : (n : Name) → IsUtf8 (text n)
names_are_text n =
    let word = (and_parts _ (leb (length (text n)) 12) n.lawful).0 in
    IsUtf8-from_ascii (text n) (letters_are_ascii (text n) (and_parts (leb 1 (length (text n))) _ word).1)

-- What is read of bytes that are text is the bytes, whatever would come in place of a fault.
pub read_of_text : {E : Type 0} (w : List ℕ) (r : Result (Bor (List ℕ)) E) (other : Bor (List ℕ)) (Q : E → Type 0) → IsUtf8 w
    → MatchResult r (λ s. (s.now ≡ w) × IsUtf8 w) (λ e. ¬ (IsUtf8 w) × Q e) → (result_unwrap_or r other).now ≡ w
read_of_text w (Ok s) other Q is h = h.0
read_of_text w (Err e) other Q is h = absurd (h.0 is)
