-- The words of a command line.
use Rattle.std.specs.Prelude.{◌≡◌, ◌⊎◌, ℕ, ◌<◌, ◌≤◌, List, [], ◌∷◌, length, codes, slice_get, slice_index, Option, Some, MatchOption}
use Rattle.std.specs.Fmt.{decimal}
use Rattle.hex.specs.Hex.{IsBytes, encode_lower}
use Rattle.smore_base.specs.declared.geometry.Geometry.{Geometry}
use Rattle.smore_base.specs.Geometry.{IsWithinLimits}
use Rattle.zone_bay.specs.Contents.{Shape}
use Rattle.marker_format.specs.Zone.{Array}
use Rattle.zone_bay.specs.Contents.{IsOfBay}
use Rattle.smore_top.specs.declared.command.Command.{Command}
use Rattle.smore_top.specs.declared.command.Command.TheVariants.{Format, Batch}
use Rattle.smore_top.specs.declared.command.WordFault.{WordFault}
use Rattle.smore_top.specs.declared.command.WordFault.TheVariants.{Memory, Words}

-- a word that begins with `-`
abbrev pub IsOption : List ℕ → Type 0
IsOption word = slice_index word 0 ≡ 45

-- `batch F`: the frames of the input, over the devices in the folder F
abbrev pub IsBatch : List (List ℕ) → Type 0
IsBatch words = (folder : List ℕ) × (words ≡ codes "batch" ∷ folder ∷ []) × ¬ IsOption folder

-- ---- format

-- the number of an array: 16 bytes
pub record IsId (id : List ℕ) : Type 0 where
  pub long : length id ≡ 16
  pub bytes : IsBytes id

-- the geometry of an array that is made: within the limits, and so far with k 1 and p 1
pub record IsMadeGeometry (geometry : Geometry) : Type 0 where
  pub within : IsWithinLimits geometry
  pub one_source : geometry.k ≡ 1
  pub one_parity : geometry.p ≡ 1

-- The words that spell it: the folder, the array's number in lower-case hexadecimal digits, and the numbers of its geometry in
-- decimal digits without sign or leading zero.
abbrev pub format_words : List ℕ → Array → List (List ℕ)
format_words folder array =
    codes "format" ∷ folder ∷ encode_lower array.id
    ∷ decimal array.geometry.drives ∷ decimal array.geometry.k ∷ decimal array.geometry.p
    ∷ decimal array.geometry.zones ∷ decimal array.geometry.blocks ∷ decimal array.geometry.shard ∷ []

-- `format F ID D K P Z B S`: a new array in the folder F, with this number and geometry
pub record IsFormat (array : Array) (words : List (List ℕ)) : Type 0 where
  pub folder : List ℕ
  pub spelled : words ≡ format_words folder array
  pub no_option : ¬ IsOption folder
  pub id : IsId array.id
  pub geometry : IsMadeGeometry array.geometry

-- the same, of an array with the devices, zones and blocks of a bay of this shape
abbrev pub IsFormatFor : Shape → List (List ℕ) → Type 0
IsFormatFor shape words = (array : Array) × IsFormat array words × IsOfBay array.geometry shape

-- a command line that is run over a bay of this shape
abbrev pub IsCommandLine : Shape → List (List ℕ) → Type 0
IsCommandLine shape words = IsBatch words ⊎ IsFormatFor shape words

-- ---- commands

-- The words spell this command.
abbrev pub Spell : List (List ℕ) → Command → Type 0
Spell words (Format folder geometry id) = (words ≡ format_words folder (record { geometry = geometry; id = id })) × (¬ IsOption folder) × IsId id × IsMadeGeometry geometry
Spell words (Batch folder) = (words ≡ codes "batch" ∷ folder ∷ []) × ¬ IsOption folder

-- Why no command is read: the words spell none. Memory is asked for where they spell one alone.
abbrev pub RefusedFor : WordFault → List (List ℕ) → Type 0
RefusedFor Words words = (command : Command) → Spell words command → ⊥
RefusedFor Memory words = (command : Command) × Spell words command

-- Words spell one command at most.
abbrev pub OneCommand : Type 0
OneCommand = (words : List (List ℕ)) (a b : Command) → Spell words a → Spell words b → a ≡ b

-- ---- how they are read

-- Of decimal digits: no sign stands before them, and no zero but one that stands alone.
abbrev pub IsPlain : List ℕ → Type 0
IsPlain word = (word ≡ codes "0") ⊎ ((49 ≤ slice_index word 0) × (slice_index word 0 ≤ 57))

-- a number below a limit, read exactly where the word spells one
abbrev pub ReadsNumber : ℕ → List ℕ → Option ℕ → Type 0
ReadsNumber limit word result = MatchOption result ((n : ℕ) → n < limit → word ≡ decimal n → ⊥) (λ n. word ≡ decimal n)

-- the word at this index spells the number
abbrev pub IsNumberAt : ℕ → List (List ℕ) → ℕ → Type 0
IsNumberAt index words n = slice_get words index ≡ Some (decimal n)

abbrev pub ReadsNumberAt : ℕ → ℕ → List (List ℕ) → Option ℕ → Type 0
ReadsNumberAt limit index words result = MatchOption result ((n : ℕ) → n < limit → IsNumberAt index words n → ⊥) (λ n. IsNumberAt index words n)

-- the number of an array, read exactly where the word spells one
abbrev pub ReadsId : List ℕ → Option (List ℕ) → Type 0
ReadsId word result = MatchOption result ((id : List ℕ) → IsId id → word ≡ encode_lower id → ⊥) (λ id. IsId id × (word ≡ encode_lower id))

-- the last six words of `format` spell this geometry
pub record HasGeometry (words : List (List ℕ)) (geometry : Geometry) : Type 0 where
  pub drives : IsNumberAt 3 words geometry.drives
  pub k : IsNumberAt 4 words geometry.k
  pub p : IsNumberAt 5 words geometry.p
  pub zones : IsNumberAt 6 words geometry.zones
  pub blocks : IsNumberAt 7 words geometry.blocks
  pub shard : IsNumberAt 8 words geometry.shard
  pub made : IsMadeGeometry geometry

-- the first words of `format`, as many as it has in all: the command, a folder and this number
pub record BeginsFormat (words : List (List ℕ)) (id : List ℕ) : Type 0 where
  pub many : length words ≡ 9
  pub command : slice_get words 0 ≡ Some (codes "format")
  pub folder : List ℕ
  pub at_folder : slice_get words 1 ≡ Some folder
  pub no_option : ¬ IsOption folder
  pub at_id : slice_get words 2 ≡ Some (encode_lower id)
  pub is_id : IsId id
