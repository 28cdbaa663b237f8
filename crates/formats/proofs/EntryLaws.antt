-- A text is taken exactly where lawful claims are written so, and is refused with its least fault everywhere else. Assumes nothing.
use Rattle.std.proofs.Common.{◌≡◌, ℕ, ◌≤◌, true, List, length, Some, None, Ok, Err, Option, Result, sym, refl, ap, ◌∙◌, subst, ⊎_elim, arith}
use Rattle.std.proofs.lemmas.Bool.{cases_lt}
use Rattle.std.specs.Option.{option_map}
use Rattle.texts.specs.Numbers.{every}
use Rattle.clocks.specs.Letters.{lawful_name}
use Rattle.tables.specs.Lawful.{different}
use Rattle.rows.specs.declared.cell.RowKind.TheVariants.{Claim as Claim'}
use Rattle.formats.specs.declared.claim.Claim.{Claim}
use Rattle.formats.specs.declared.claim.EntryStage.{EntryStage}
use Rattle.formats.specs.declared.claim.EntryStage.TheVariants.{Head, Rows}
use Rattle.formats.specs.declared.fault.SheetFault.{SheetFault}
use Rattle.formats.specs.Faults.{refusal}
use Rattle.formats.specs.Least.{Refused}
use Rattle.formats.specs.TableText.{head_is}
use Rattle.formats.specs.Walk.{Refusal, Line}
use Rattle.formats.specs.EntriesText.{EntryParts, entry_head, entry_limits, entry_due, entry_step_at, entries_read, entries_format, with_claim, claim_from, read_entries, IsEntries, OnlyEntries, EntriesTaken, EntriesOrFault}
use Rattle.formats.specs.EntryLines.{Fills}
use Rattle.formats.proofs.Least.{Judges, head-judges, row-judges, taken-is-faultless}
use Rattle.formats.proofs.Laws.{head-known, taken-is-only, refused-is-none, one_of_two}
use Rattle.formats.proofs.EntriesRead.{taken-is-written}
use Rattle.formats.proofs.EntriesWritten.{written-is-taken}

module _ (names : List (List ℕ)) (room : ℕ) where
  entry-judges : (stage : EntryStage) (s : EntryParts) (l : Line) → Judges (entry_due names room stage s) l (entry_step_at names room stage s l)
  entry-judges Head s l = head-judges 0 (head_is (entry_head names)) l (entries_read s.claims) (head-known (entry_head names) l.bytes)
  entry-judges Rows s l =
      row-judges (entry_limits room) (length s.claims) (Claim' (length names)) names l (λ cells. with_claim s (claim_from (length names) cells)) s

  module _ (named : every lawful_name names ≡ true) (apart : different names ≡ true) (few : length names ≤ 8) (t : List ℕ) where
    written_back : (claims : List Claim) → IsEntries names room t claims → read_entries names room t ≡ Ok (entries_read claims)
    written_back claims is =
        ap (read_entries names room) (sym is.1)
        ∙ written-is-taken names named apart few room claims is.0 (subst (λ x. length x ≤ 65536) (sym is.1) is.2)

    taken_back : (s : EntryParts) → read_entries names room t ≡ Ok s → IsEntries names room t s.claims
    taken_back s h =
        let written = taken-is-written names room few t s h in
        let short = ⊎_elim
        (λ long. absurd (taken-is-faultless (entries_format names room) (λ p l. entry-judges p.stage p l) t s h 0 0 _ (long, refl, refl)))
        (λ fits. fits) (cases_lt 65536 (length t)) in
        (written.1, sym written.0, short)

    pub entries-taken : (s : EntryParts) → read_entries names room t ≡ Ok s → OnlyEntries names room t s.claims
    entries-taken =
        taken-is-only (entries_format names room) (λ s l. entry-judges s.stage s l) t (IsEntries names room t) (λ s. s.claims) entries_read (λ claims. refl) written_back taken_back

    pub entries-refused : (q : Refusal) → read_entries names room t ≡ Err q → Refused (entries_format names room) t (IsEntries names room t) (Some q)
    entries-refused =
        refused-is-none (entries_format names room) (λ s l. entry-judges s.stage s l) t (IsEntries names room t) (λ s. s.claims) entries_read (λ claims. refl) written_back taken_back

    pub entries-or-fault : EntriesOrFault names room t
    entries-or-fault =
        one_of_two (entries_format names room) (λ s l. entry-judges s.stage s l) t (IsEntries names room t) (λ s. s.claims) entries_read (λ claims. refl) written_back taken_back

-- as the code fills a list
module _ (names : List (List ℕ)) (named : every lawful_name names ≡ true) (apart : different names ≡ true) (few : length names ≤ 8) (t : List ℕ) (before after : List Claim) where
  pub list-filled : (r : Result ℕ SheetFault) → Fills r (read_entries names (length before) t) before after → EntriesTaken r names t before after
  list-filled (Ok n) h = (h.0.claims, entries-taken names (length before) named apart few t h.0 h.1, h.2, h.3)
  list-filled (Err e) h = go (refusal e) refl h.0
    where
      go : (o : Option Refusal) → refusal e ≡ o → Some (read_entries names (length before) t) ≡ option_map Err o → EntriesTaken (Err e) names t before after
      go (Some q) is g =
          let err : read_entries names (length before) t ≡ Err q = cc in
          (q, is, entries-refused names (length before) named apart few t q err, h.1)
      go None is g = absurd (let z : ◌≡◌ {A = ℕ} 0 1 = cc in omega arith)
