-- RULES 18.6: what the answer to a FASTA text says.
use Rattle.std.specs.Prelude.{Bool, not, ℕ, eqb, Result, Ok, Err}
use Rattle.answers.specs.Told.{Tells}
use Rattle.answers.specs.declared.Told.{Told}
use Rattle.fasta.specs.declared.conversion.Fault.{Fault}
use Rattle.fasta.specs.declared.conversion.Fault.TheVariants.{Short, Before, Byte, Wide, Many, Empty, Uneven}

-- RULES 18.6: a job block of so many bytes, or a refusal.
abbrev pub Conversion : Type 0
Conversion = Result ℕ Fault

-- RULES 18.6, 18.7: the number of each answer; 0 is a success.
abbrev pub conversion_number : Conversion → ℕ
conversion_number (Ok used) = 0
conversion_number (Err Short) = 20
conversion_number (Err (Before place)) = 21
conversion_number (Err (Byte place)) = 22
conversion_number (Err (Wide place)) = 23
conversion_number (Err (Many place)) = 24
conversion_number (Err (Empty place)) = 25
conversion_number (Err (Uneven place)) = 26

-- RULES 18.7: its place: a byte for 21 to 24, a sequence for 25 and 26.
abbrev pub conversion_place : Conversion → ℕ
conversion_place (Ok used) = 0
conversion_place (Err Short) = 0
conversion_place (Err (Before byte)) = byte
conversion_place (Err (Byte byte)) = byte
conversion_place (Err (Wide byte)) = byte
conversion_place (Err (Many byte)) = byte
conversion_place (Err (Empty sequence)) = sequence
conversion_place (Err (Uneven sequence)) = sequence

-- RULES 18.6: the bytes used, which only a success has.
abbrev pub conversion_used : Conversion → ℕ
conversion_used (Ok used) = used
conversion_used (Err Short) = 0
conversion_used (Err (Before place)) = 0
conversion_used (Err (Byte place)) = 0
conversion_used (Err (Wide place)) = 0
conversion_used (Err (Many place)) = 0
conversion_used (Err (Empty place)) = 0
conversion_used (Err (Uneven place)) = 0

-- RULES 18.6: the three numbers together.
abbrev pub ToldConversion : Conversion → Told → Type 0
ToldConversion conversion r = Tells (conversion_number conversion) (conversion_place conversion) (conversion_used conversion) r

abbrev pub refuses : Conversion → Bool
refuses conversion = not (eqb (conversion_number conversion) 0)

-- RULES 18.6: no fault so far, and no bytes used yet.
abbrev pub no_fault : Conversion
no_fault = Ok 0

-- What refuses, where something does: a success is no fault so far, whatever it hands back.
abbrev pub fault_of : {A : Type 0} → Result A Fault → Conversion
fault_of (Ok value) = no_fault
fault_of (Err fault) = Err fault
