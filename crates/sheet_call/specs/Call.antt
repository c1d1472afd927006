-- The two calls over bytes: what each gives for every list and every buffer, by every way and at every side, over the definitions of crate
-- plan.
-- Assumes nothing.
use Rattle.std.specs.Prelude.{◌≡◌, true, false, List, ℕ, ◌≤◌, ◌<◌, eqb, Option, None, Some, length, take}
use Rattle.placing.specs.declared.units.Side.{Side}
use Rattle.placing.specs.declared.units.Side.TheVariants.{Number, Free}
use Rattle.placing.specs.declared.way.Way.{Way}
use Rattle.placing.specs.declared.way.Way.TheVariants.{Usual, Above}
use Rattle.plan.specs.declared.refusal.Refusal.{Refusal}
use Rattle.plan.specs.declared.refusal.Refusal.TheVariants.{BadNumber}
use Rattle.plan.specs.rules.Refusal.{number_of, Result, accepted, refused}
use Rattle.plan.specs.rules.List.{Site}
use Rattle.plan.specs.rules.Sheet.{refusal_line}
use Rattle.plan.specs.rules.Calls.{length_given, filled_with, to_place, to_place_at}
use Rattle.plan.specs.deciding.Output.{sheet_of, sheet_at, output_of, output_at, exists_at}
use Rattle.plan.specs.deciding.Reading.{read_list}
use Rattle.plan.specs.calls.Lengths.{shortest_sheet, shortest_sheet_at}
use Rattle.plan.specs.Demands.{ListRefused, RefusedAt, SheetFor, SheetForAt}

-- What a number given as a way stands for: a way, or none.
abbrev pub GivenWay : Type 0
GivenWay = Option Way

-- ---- the number and the buffer

-- The number that a call gives, and the buffer afterwards.
pub record Called : Type 0 where
  pub number : ℕ
  pub buffer : List ℕ

-- A refusal: its number, with the buffer as it came.
abbrev pub refusal : Refusal → List ℕ → Called
refusal why buffer = record { number = number_of why; buffer = buffer }

-- What writing a sheet comes to: its length, with the sheet at the front of the buffer and the bytes after it as they came; or a refusal.
abbrev pub sheet_in : Result ℕ → List ℕ → List ℕ → Called
sheet_in (accepted n) sheet buffer = record { number = n; buffer = filled_with sheet buffer }
sheet_in (refused why) sheet buffer = refusal why buffer

-- For what is to be placed of a list: the refusal, or the sheet of its sites.
abbrev pub called_for : (List Site → List ℕ) → Result (List Site) → List ℕ → Called
called_for sheet-of (refused why) buffer = refusal why buffer
called_for sheet-of (accepted sites) buffer = sheet_in (length_given true (sheet-of sites) buffer) (sheet-of sites) buffer

-- For the bytes of a list, by a way, at the side found,
abbrev pub called : GivenWay → List ℕ → List ℕ → Called
called (Some way) list buffer = called_for (sheet_of way) (to_place (read_list list)) buffer
called None list buffer = refusal BadNumber buffer

-- and at a given side.
abbrev pub called_at : GivenWay → Side → List ℕ → List ℕ → Called
called_at (Some way) side list buffer = called_for (sheet_at way side) (to_place_at side (exists_at way side) (read_list list)) buffer
called_at None side list buffer = refusal BadNumber buffer

-- The numbers that stand for the ways: 1 for the usual one, 2 for above the spot only. No document has them; a number that is none is
-- refused as a side outside the range is.
abbrev pub way_of : ℕ → GivenWay
way_of number = elim (eqb number 1) [ true ↦ Some Usual | false ↦ elim (eqb number 2) [ true ↦ Some Above | false ↦ None ] ]

-- The number that stands for free, the greatest of 32 bits; every other stands for itself.
abbrev pub free_number : ℕ
free_number = 4294967295

abbrev pub side_of : ℕ → Side
side_of number = elim (eqb number free_number) [ true ↦ Free | false ↦ Number (record { 0 = number }) ]

-- ---- what the number tells

-- What can come of a list: a refusal, by its number; or a sheet, no shorter than this, which is then the output of the program.
pub record Asked : Type 1 where
  pub Refused : ℕ → Type 0
  pub IsSheet : List ℕ → Type 0
  pub output : List ℕ
  pub shortest : ℕ

-- Without a way: refused with 3, and no sheet.
abbrev pub by_no_way : (shortest : ℕ) → Asked
by_no_way shortest =
    record { Refused = λ number. number ≡ 3; IsSheet = λ sheet. ⊥; output = refusal_line 3; shortest = shortest }

-- At the side found: sheets have 18 bytes and more.
abbrev pub at_found : GivenWay → List ℕ → Asked
at_found (Some way) list =
    record { Refused = ListRefused list; IsSheet = SheetFor way list; output = output_of way list; shortest = shortest_sheet }
at_found None list = by_no_way shortest_sheet

-- At a given side: they have 15 and more.
abbrev pub at_given : GivenWay → Side → List ℕ → Asked
at_given (Some way) side list =
    record {
      Refused = RefusedAt way side list;
      IsSheet = SheetForAt way side list;
      output = output_at way side list;
      shortest = shortest_sheet_at;
    }
at_given None side list = by_no_way shortest_sheet_at

-- Why there is no sheet in this buffer, with the number: the list, the side or the way is refused, or the sheet is longer than the buffer.
pub data CallRefused (asked : Asked) (buffer : List ℕ) : ℕ → Type 0 where
  is_refused : {number : ℕ} → asked.Refused number → CallRefused asked buffer number
  short_buffer : asked.IsSheet asked.output → length buffer < length asked.output → CallRefused asked buffer 10

-- What the number tells a caller: from the length of the shortest sheet on, the buffer starts with a sheet for the list, the same bytes
-- that are the output of the placing program; below, it is a refusal's, and the buffer is as it came.
pub record Told (asked : Asked) (buffer : List ℕ) (number : ℕ) (after : List ℕ) : Type 0 where
  pub sheet : asked.shortest ≤ number → asked.IsSheet (take number after)
  pub same_output : asked.shortest ≤ number → take number after ≡ asked.output
  pub refused : number < asked.shortest → CallRefused asked buffer number × (after ≡ buffer)
