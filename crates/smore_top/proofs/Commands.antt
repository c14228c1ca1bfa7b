-- The words of commands: which they are, and that they are those of one command alone.
use Rattle.std.proofs.Common.{◌≡◌, inl, inr, ℕ, List, sym, ap, subst, ◌∙◌}
use Rattle.std.specs.Prelude.{slice_get}
use Rattle.smore_base.specs.declared.geometry.Geometry.{Geometry}
use Rattle.zone_bay.specs.Contents.{Shape}
use Rattle.marker_format.specs.Zone.{Array}
use Rattle.zone_bay.specs.Contents.{IsOfBay}
use Rattle.smore_top.specs.declared.command.Command.{Command}
use Rattle.smore_top.specs.declared.command.Command.TheVariants as commands
use Rattle.smore_top.specs.declared.task.Task.{Task}
use Rattle.smore_top.specs.declared.task.Task.TheVariants.{Format, Batch}
use Rattle.smore_top.specs.Words.{IsBatch, IsFormat, IsCommandLine, Spell, OneCommand}
use Rattle.smore_top.specs.Task.{Ask, AskNothing}
use Rattle.smore_top.proofs.WordReads.{format_begins, format_has, one_geometry, one_id}

same_array : (g : Geometry) (id : List ℕ) (g' : Geometry) (id' : List ℕ) → g ≡ g' → id ≡ id' → ◌≡◌ {A = Array} (record { geometry = g; id = id }) (record { geometry = g'; id = id' })
same_array g id g' id' same same' = cc

pub none_spelled : (words : List (List ℕ)) → AskNothing words → (command : Command) → Spell words command → ⊥
none_spelled words nothing (commands.Format folder geometry id) spelled =
    nothing.1 (record { geometry = geometry; id = id }) (record { folder = folder; spelled = spelled.0; no_option = spelled.1; id = spelled.2; geometry = spelled.3 })
none_spelled words nothing (commands.Batch folder) spelled = nothing.0 (folder, spelled.0, spelled.1)

pub some_spelled : (words : List (List ℕ)) (task : Task) → Ask words task → (command : Command) × Spell words command
some_spelled words (Format new) is = (commands.Format is.folder new.geometry new.id, (is.spelled, is.no_option, is.id, is.geometry))
some_spelled words Batch is = (commands.Batch is.0, (is.1, is.2))

pub one_format : (words : List (List ℕ)) (a b : Array) → IsFormat a words → IsFormat b words → a ≡ b
one_format words a b is is' =
    let geometries : a.geometry ≡ b.geometry = one_geometry words a.geometry b.geometry (format_has words a is) (format_has words b is') in
    let ids : a.id ≡ b.id = one_id words a.id b.id (format_begins words a is) (format_begins words b is') in
    same_array a.geometry a.id b.geometry b.id geometries ids

pub batch_is_no_format : (words : List (List ℕ)) (array : Array) → IsBatch words → IsFormat array words → ⊥
batch_is_no_format words array (folder, spelled, no_option) is = let both = sym spelled ∙ is.spelled in cc

pub nothing_asked : (shape : Shape) (words : List (List ℕ)) → AskNothing words → IsCommandLine shape words → ⊥
nothing_asked shape words nothing (inl batch) = nothing.0 batch
nothing_asked shape words nothing (inr (array, is, of_bay)) = nothing.1 array is

-- an array of another shape than the bay's is asked for
pub other_shape : (shape : Shape) (words : List (List ℕ)) (array : Array) → IsFormat array words → ¬ IsOfBay array.geometry shape → IsCommandLine shape words → ⊥
other_shape shape words array is other (inl batch) = batch_is_no_format words array batch is
other_shape shape words array is other (inr (array', is', of_bay)) = other (subst (λ (a : Array). IsOfBay a.geometry shape) (one_format words array' array is' is) of_bay)

same_format : (f : List ℕ) (g : Geometry) (id : List ℕ) (f' : List ℕ) (g' : Geometry) (id' : List ℕ) → f ≡ f' → g ≡ g' → id ≡ id' → ◌≡◌ {A = Command} (commands.Format f g id) (commands.Format f' g' id')
same_format f g id f' g' id' same_f same_g same_id = cc

pub one_command : OneCommand
one_command words (commands.Format f g id) (commands.Format f' g' id') spelled spelled' =
    let is : IsFormat (record { geometry = g; id = id }) words = record { folder = f; spelled = spelled.0; no_option = spelled.1; id = spelled.2; geometry = spelled.3 } in
    let is' : IsFormat (record { geometry = g'; id = id' }) words = record { folder = f'; spelled = spelled'.0; no_option = spelled'.1; id = spelled'.2; geometry = spelled'.3 } in
    let folders = ap (λ (w : List (List ℕ)). slice_get w 1) (sym spelled.0 ∙ spelled'.0) in
    let same : f ≡ f' = cc in
    same_format f g id f' g' id' same (one_geometry words g g' (format_has words _ is) (format_has words _ is')) (one_id words id id' (format_begins words _ is) (format_begins words _ is'))
one_command words (commands.Format f g id) (commands.Batch f') spelled spelled' = let both = sym spelled.0 ∙ spelled'.0 in cc
one_command words (commands.Batch f) (commands.Format f' g' id') spelled spelled' = let both = sym spelled.0 ∙ spelled'.0 in cc
one_command words (commands.Batch f) (commands.Batch f') spelled spelled' = let both = sym spelled.0 ∙ spelled'.0 in cc
