-- What the value of `-n` of `split` says: GNU coreutils manual, split, CHUNKS.
use Rattle.std.specs.{
  Prelude.{ℕ, ◌-◌, ◌==◌, ◌&&◌, nat_lt, List, [], ◌∷◌, length, Option, Some, None, Result, Ok, Err, if◌then◌else◌},
}
use Rattle.seg_core.specs.{
  Count.{after_digits, digits_of, leading_digits},
  declared.cut.{Cut.TheVariants.Round, Way.Way},
}
use Rattle.ports_core.specs.declared.fault.UsageKind.{UsageKind, TheVariants.BadNumber}
use Rattle.words_core.specs.{
  declared.division.{Dealing.{Dealing, TheVariants.{Bytes, Lines, Turns}}, Division.Division},
  Number.{positive_in, then_check, up_to},
}
use Rattle.seg_core.specs.declared.cut.Way.TheVariants as way
use Rattle.seg_core.specs.declared.unit.Unit.TheVariants as unit

-- a division among all files, 1 to 65,535 of them
abbrev pub all_in : Dealing → List ℕ → Result Division UsageKind
all_in dealing files = then_check (positive_in 65535 files) (λ n.
    Ok (record { dealing = dealing; files = n; only = None }))

-- one file of a division, counted from 1; a number that is greater than that of all files is reported before 0
abbrev pub one_in : Dealing → (number files : List ℕ) → Result Division UsageKind
one_in dealing number files = then_check (up_to 65535 (digits_of files)) (λ n. then_check (positive_in n number) (λ k.
    Ok (record { dealing = dealing; files = n; only = Some (k - 1) })))

-- what `N` or `K/N` says: `front` has the leading digits, and the other list what follows them; 47 is `/`
abbrev pub numbers_in : Dealing → (front rest : List ℕ) → Result Division UsageKind
numbers_in dealing front [] = all_in dealing front
numbers_in dealing front (byte ∷ rest) =
    if byte == 47 && nat_lt 0 (length front) then one_in dealing front rest else Err BadNumber

abbrev pub divided_in : Dealing → List ℕ → Result Division UsageKind
divided_in dealing text = numbers_in dealing (leading_digits text) (after_digits text)

-- what `N` or `K/N` says, with `l/` (108, 47), `r/` (114, 47) or nothing before it
abbrev pub division_in : List ℕ → Result Division UsageKind
division_in (byte ∷ next ∷ text) =
    if byte == 108 && next == 47 then divided_in Lines text
    else (if byte == 114 && next == 47 then divided_in Turns text else divided_in Bytes (byte ∷ next ∷ text))
division_in text = divided_in Bytes text

-- the way to split by a division, if lines end with this byte
abbrev pub dealt_by : (delim : ℕ) → Dealing → (files : ℕ) → (only : Option ℕ) → Way
dealt_by delim Bytes n None = way.Chunks (record { count = n; unit = unit.Bytes; delim = delim })
dealt_by delim Bytes n (Some place) = way.Chunk place (record { count = n; unit = unit.Bytes; delim = delim })
dealt_by delim Lines n None = way.Chunks (record { count = n; unit = unit.Lines; delim = delim })
dealt_by delim Lines n (Some place) = way.Chunk place (record { count = n; unit = unit.Lines; delim = delim })
dealt_by delim Turns n None = way.Cut (Round n delim)
dealt_by delim Turns n (Some place) = way.Turn place n delim

abbrev pub way_of_division : ℕ → Division → Way
way_of_division delim division = dealt_by delim division.dealing division.files division.only
