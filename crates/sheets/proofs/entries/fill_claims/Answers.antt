use Rattle.std.proofs.Common.{◌≡◌, suc, length, Some, None, Ok, refl, sym, subst}
use Rattle.judges.specs.Cursor.{Starts}
use Rattle.formats.specs.EntriesText.{entry_start, with_claim}
use Rattle.formats.specs.EntryLines.{entry_next, entry_gives}
use Rattle.formats.specs.Faults.{line_in, line_number}
use Rattle.sheets.proofs.EntriesWalk.{reading_begins, past_head, past-claim, one_more, claim-has-room, not-refused}
use Rattle.sheets.proofs.entries.fill_claims.Goals as goal

pub loop-line-init : goal.loop-line-init
loop-line-init c =
    let t = c.args.text.now in
    let starts = subst (Starts t) (sym c.into_iter-line-iterator.ensures.into_iter_gives) c.new-line-items.ensures in
    (entry_start, 1, reading_begins c.args.events.now (length c.args.claims.now) t c.into_iter-line-iterator.result starts 1 refl, refl)

pub returns-in-Err : goal.returns-in-Err
returns-in-Err c =
    let inv = c.loop-line.invariant in
    λ s taken. absurd
    (not-refused c.args.events.now (length c.args.claims.now) c.args.text.now c.loop-line.stage c.loop-line.count c.loop-line.line-iterator inv.1 inv.0 inv.2
    c.next.new.self c.in-Some.line c.in-Some.ensures.steps (line_number c.in-Err.field-0) c.in-Err.ensures s taken)

pub loop-line-preserved-in-Ok-Some : goal.loop-line-preserved-in-Ok-Some
loop-line-preserved-in-Ok-Some c =
    let inv = c.loop-line.invariant in
    let events = c.args.events.now in
    let room = length c.args.claims.now in
    let claim = c.in-Ok-Some.claim in
    let was = c.in-Ok-Some.ensures in
    let gives : entry_gives events room c.loop-line.stage c.loop-line.count (line_in c.in-Some.line) ≡ Ok (Some claim) = cc in (
      with_claim inv.0 claim,
      suc inv.1,
      past-claim events room c.args.text.now c.loop-line.stage c.loop-line.count c.loop-line.line-iterator inv.1 inv.0 inv.2
          c.next.new.self c.in-Some.line c.in-Some.ensures.steps (suc inv.1) refl claim gives,
      one_more inv.0.claims c.args.claims.now c.loop-line.claims c.loop-line.count claim inv.2.count-is
          (claim-has-room events room c.loop-line.stage c.loop-line.count (line_in c.in-Some.line) claim gives) inv.3,
    )

pub loop-line-preserved : goal.loop-line-preserved
loop-line-preserved c =
    let inv = c.loop-line.invariant in
    let was = c.in-Ok-None.ensures in
    let gives : entry_gives c.args.events.now (length c.args.claims.now) c.loop-line.stage c.loop-line.count (line_in c.in-Some.line) ≡ Ok None = cc in (
      entry_next inv.0 None,
      suc inv.1,
      past_head c.args.events.now (length c.args.claims.now) c.args.text.now c.loop-line.stage c.loop-line.count c.loop-line.line-iterator inv.1 inv.0 inv.2
          c.next.new.self c.in-Some.line c.in-Some.ensures.steps (suc inv.1) refl gives,
      inv.3,
    )
