-- Markers without what only some kinds have.
use Rattle.std.specs.Prelude.{ℕ, ◌+◌, List, None}
use Rattle.marker_format.specs.declared.kind.Kind.{Kind}
use Rattle.marker_format.specs.declared.marker.Marker.{Marker}
use Rattle.marker_format.specs.Kind.{code_of}
use Rattle.marker_format.specs.Zone.{Array}

-- of index 0, with k of n fragments
abbrev pub plain_marker : List ℕ → ℕ → ℕ → ℕ → Kind → ℕ → Marker
plain_marker array k n set kind position = record {
  kind = code_of kind;
  index = 0;
  k = k;
  n = n;
  set = set;
  position = position;
  fragment = 0;
  stamp = 0;
  upload = 0;
  part = 0;
  parts = 0;
  length = 0;
  payload = 0;
  array = array;
  name = None;
}

-- of an array's sets
abbrev pub plain_of : Array → ℕ → Kind → ℕ → Marker
plain_of array set kind position = plain_marker array.id array.geometry.k (array.geometry.k + array.geometry.p) set kind position
