-- Where what is taken is written so and what is written so is taken, a text is taken exactly where something is written so,
-- and is refused with its least fault everywhere else. Assumes nothing.
use Rattle.std.proofs.Common.{◌≡◌, ℕ, Bool, true, false, cond, ◌⊎◌, List, Some, None, Ok, Err, Option, Result, sym, refl, ap, ◌∙◌, inl, inr}
use Rattle.std.specs.Str.{bytes_eq}
use Rattle.rows.proofs.Outcomes.{never-ok, same-from-ok}
use Rattle.formats.specs.Faults.{Fails}
use Rattle.formats.specs.Least.{Format, Least, OneOf, Refused}
use Rattle.formats.specs.TableText.{head_is}
use Rattle.formats.specs.Walk.{Refusal, Line, reading}
use Rattle.formats.proofs.Least.{Judges, refused-is-least, taken-is-faultless}

-- the numbers that a head is wrong by
abbrev pub Known : ℕ → Type 0
Known n = (n ≡ 0) ⊎ ((n ≡ 4) ⊎ (n ≡ 7))

pub head-known : (head line : List ℕ) → Known (head_is head line)
head-known head line = go (bytes_eq line head)
  where
    go : (b : Bool) → Known (cond b 0 4)
    go true = inl refl
    go false = inr (inl refl)

module _ {S X : Type 0} (f : Format S) (judges : (s : S) (l : Line) → Judges (f.due s) l (f.step s l)) (t : List ℕ)
    (Written : X → Type 0) (held : S → X) (back : X → S) (same : (x : X) → held (back x) ≡ x)
    (written-is-taken : (x : X) → Written x → reading f.most f.step f.start t ≡ Ok (back x))
    (taken-is-written : (s : S) → reading f.most f.step f.start t ≡ Ok s → Written (held s)) where
  abbrev read : Result S Refusal
  read = reading f.most f.step f.start t

  pub taken-is-only : (s : S) → read ≡ Ok s → Written (held s) × ((x : X) → Written x → x ≡ held s)
  taken-is-only s h = (taken-is-written s h, λ x w. sym (same x) ∙ ap held (same-from-ok (back x) s (sym (written-is-taken x w) ∙ h)))

  pub refused-is-none : (q : Refusal) → read ≡ Err q → Least f t q × ((x : X) → Written x → ⊥)
  refused-is-none q h = (refused-is-least f judges t q h, λ x w. never-ok q (back x) (sym h ∙ written-is-taken x w))

  pub not-read : (o : Option Refusal) → Fails read o → Refused f t Written o
  not-read None h = tt
  not-read (Some q) h = refused-is-none q h

  pub one_of_two : OneOf ((x : X) × Written x) ((q : Refusal) × Least f t q)
  one_of_two = (
    go read refl,
    λ one least.
        taken-is-faultless f judges t (back one.0) (written-is-taken one.0 one.1) least.1.place least.1.within least.0 least.1.fault,
  )
    where
      go : (r : Result S Refusal) → read ≡ r → ((x : X) × Written x) ⊎ ((q : Refusal) × Least f t q)
      go (Ok s) h = inl (held s, taken-is-written s h)
      go (Err q) h = inr (q, refused-is-least f judges t q h)
