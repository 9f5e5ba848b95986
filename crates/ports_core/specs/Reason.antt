-- Why outputs, inputs and names break, and what messages say of it: the numbers of Linux, and the texts of the C
-- library.
use Rattle.std.specs.{
  Prelude.{ℕ, ℤ, pos, negsuc, ◌==◌, List, [], ◌∷◌, codes, Option, Some, None, Bool, true, false},
  Prelude.{if◌then◌else◌},
  IoError.{error_kind, raw_os_error},
  declared.io.{Error.Error, ErrorKind.{ErrorKind, TheVariants.InvalidInput}},
}
use Rattle.ports_core.specs.declared.reason.Reason.{
  Reason,
  TheVariants.{Gone, Missing, Denied, Folder, NoFolder, Full, TooLarge, ReadOnly, Quota, TooMany, Device, Busy},
  TheVariants.{LongName, Circle, NotOpen, NoDevice, Input, MayBeInput, Endless, NotUtf8, Other},
}

-- what a message says of a reason, after the name
abbrev pub reason_text : Reason → List ℕ
reason_text Gone = []
reason_text Missing = codes ": No such file or directory"
reason_text Denied = codes ": Permission denied"
reason_text Folder = codes ": Is a directory"
reason_text NoFolder = codes ": Not a directory"
reason_text Full = codes ": No space left on device"
reason_text TooLarge = codes ": File too large"
reason_text ReadOnly = codes ": Read-only file system"
reason_text Quota = codes ": Disk quota exceeded"
reason_text TooMany = codes ": Too many open files"
reason_text Device = codes ": Input/output error"
reason_text Busy = codes ": Text file busy"
reason_text LongName = codes ": File name too long"
reason_text Circle = codes ": Too many levels of symbolic links"
reason_text NotOpen = codes ": Bad file descriptor"
reason_text NoDevice = codes ": No such device or address"
reason_text Input = codes ": is an input"
reason_text MayBeInput = codes ": cannot tell whether it is an input"
reason_text Endless = []
reason_text NotUtf8 = codes ": name is not UTF-8"
reason_text Other = []

-- whether the reason is that an input goes on without an end, and isn't read to its end for that
abbrev pub is_endless : Reason → Bool
is_endless Endless = true
is_endless why = false

-- the numbers that the system has for reasons
abbrev pub reasons : List (ℕ × Reason)
reasons = (2, Missing) ∷ (5, Device) ∷ (6, NoDevice) ∷ (9, NotOpen) ∷ (13, Denied) ∷ (20, NoFolder) ∷ (21, Folder)
    ∷ (24, TooMany) ∷ (26, Busy) ∷ (27, TooLarge) ∷ (28, Full) ∷ (30, ReadOnly) ∷ (32, Gone) ∷ (36, LongName)
    ∷ (40, Circle) ∷ (122, Quota) ∷ []

abbrev pub reason_in : List (ℕ × Reason) → ℕ → Reason
reason_in [] number = Other
reason_in (row ∷ rows) number = if number == row.0 then row.1 else reason_in rows number

abbrev pub reason_at : ℤ → Reason
reason_at (pos number) = reason_in reasons number
reason_at (negsuc n) = Other

-- The reason of an error without a number: the library itself refuses a name with a byte 0, as input that isn't valid.
abbrev pub reason_without : ErrorKind → Reason
reason_without InvalidInput = NotUtf8
reason_without kind = Other

abbrev pub reason_by : Option ℤ → ErrorKind → Reason
reason_by (Some number) kind = reason_at number
reason_by None kind = reason_without kind

-- why a call failed with this error
abbrev pub reason_of : Error → Reason
reason_of error = reason_by (raw_os_error error) (error_kind error)
