-- The words of `check`, and the lines that it prints.
use Rattle.std.specs.Prelude.{◌≡◌, ◌≢◌, ℕ, List, [], ◌∷◌, ◌++◌, codes}
use Rattle.std.specs.Int.{w64, to_be_bytes}
use Rattle.std.specs.Fmt.{decimal}
use Rattle.hex.specs.Hex.{encode_lower}
use Rattle.df_model.specs.Values.{Bytes}
use Rattle.df_rdbcore.specs.declared.fault.LoadFault.{LoadFault}
use Rattle.df_rdbcore.specs.declared.fault.LoadFault.TheVariants as faults
use Rattle.df_rdbcore.specs.declared.fault.PartFault.{PartFault}
use Rattle.df_rdbcore.specs.declared.fault.PartFault.TheVariants as part
use Rattle.df_rdbcore.specs.declared.fault.Twice.{Twice}
use Rattle.df_rdbcore.specs.declared.fault.Twice.TheVariants as twice

-- ---- the words

-- a name of a file: not empty, and no option
abbrev pub IsFileName : Bytes → Type 0
IsFileName [] = ⊥
IsFileName (b ∷ bs) = b ≢ 45

-- the words behind `check`: a file, with `--` before it or without
abbrev pub NamesFile : List Bytes → Bytes → Type 0
NamesFile [] name = ⊥
NamesFile (word ∷ []) name = (word ≡ name) × IsFileName name
NamesFile (word ∷ next ∷ []) name = (word ≡ codes "--") × (next ≡ name) × IsFileName name
NamesFile (word ∷ next ∷ more ∷ words) name = ⊥

abbrev pub IsCheck : List Bytes → Bytes → Type 0
IsCheck [] name = ⊥
IsCheck (word ∷ words) name = (word ≡ codes "check") × NamesFile words name

-- ---- the lines

abbrev pub keys_line : ℕ → Bytes
keys_line n = codes "keys " ++ (decimal n ++ 10 ∷ [])

abbrev pub no_file : Bytes
no_file = codes "no file" ++ 10 ∷ []

abbrev pub disk_fault : Bytes
disk_fault = codes "disk fault" ++ 10 ∷ []

abbrev pub part_text : PartFault → Bytes
part_text part.Empty = codes "BadPart(Empty)"
part_text part.After = codes "BadPart(After)"
part_text part.Header = codes "BadPart(Header)"
part_text part.Entry = codes "BadPart(Entry)"
part_text part.Odd = codes "BadPart(Odd)"
part_text part.Container = codes "BadPart(Container)"

abbrev pub twice_text : Twice → Bytes
twice_text twice.Key = codes "Duplicate(Key)"
twice_text twice.Field = codes "Duplicate(Field)"
twice_text twice.Member = codes "Duplicate(Member)"

-- a sum as sixteen digits, high part first
abbrev pub sum_text : ℕ → Bytes
sum_text sum = encode_lower (to_be_bytes w64 sum)

-- the fault's name, with what it tells but its place
abbrev pub kind_text : LoadFault → Bytes
kind_text faults.BadMagic = codes "BadMagic"
kind_text faults.BadVersion = codes "BadVersion"
kind_text (faults.Truncated at) = codes "Truncated"
kind_text (faults.BadLength at) = codes "BadLength"
kind_text (faults.Unsupported code at) = codes "Unsupported(" ++ (decimal code ++ codes ")")
kind_text (faults.UnknownType code at) = codes "UnknownType(" ++ (decimal code ++ codes ")")
kind_text (faults.BadPart kind at) = part_text kind
kind_text (faults.Duplicate kind at) = twice_text kind
kind_text (faults.BadChecksum stored computed at) = codes "BadChecksum(" ++ (sum_text stored ++ (codes ", " ++ (sum_text computed ++ codes ")")))
kind_text (faults.ReadFault at) = codes "ReadFault"
kind_text faults.NoMemory = codes "NoMemory"

-- its place, in bytes from the file's begin
abbrev pub place_in : LoadFault → ℕ
place_in faults.BadMagic = 0
place_in faults.BadVersion = 5
place_in (faults.Truncated at) = at
place_in (faults.BadLength at) = at
place_in (faults.Unsupported code at) = at
place_in (faults.UnknownType code at) = at
place_in (faults.BadPart kind at) = at
place_in (faults.Duplicate kind at) = at
place_in (faults.BadChecksum stored computed at) = at
place_in (faults.ReadFault at) = at
place_in faults.NoMemory = 0

abbrev pub refused_line : LoadFault → Bytes
refused_line fault = codes "load refused: " ++ (kind_text fault ++ (codes " at " ++ (decimal (place_in fault) ++ 10 ∷ [])))
