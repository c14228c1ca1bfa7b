-- Lines: which fields a line may have, and the one spelling of each.
use Rattle.std.specs.Prelude.{◌≡◌, ℕ, ◌^◌, ◌<◌, ◌↔◌, List, [], ◌∷◌, ◌++◌, replicate}
use Rattle.std.specs.Int.{w8, w16, w32, w64}
use Rattle.smore_base.specs.BigEndian.{Fields, spelled}
use Rattle.smore_base.specs.Room.{record_blocks}
use Rattle.marker_format.specs.declared.kind.Kind.{Kind}
use Rattle.marker_format.specs.declared.kind.Kind.TheVariants.{Head, Digest, Trailer}
use Rattle.marker_format.specs.declared.marker.Marker.{Marker}
use Rattle.marker_format.specs.declared.marker.TheConstants.{COUNTER_END}
use Rattle.marker_format.specs.Kind.{code_of, has_stamp, has_upload, has_payload, has_name}
use Rattle.marker_format.specs.Marker.{IsUsed, IsNamed, Counts, bytes_of_name, name_field}
use Rattle.set_digest.specs.declared.line.Line.{Line}

-- ---- which fields a line may have

-- Records of these kinds are listed. A digest lists records before it, and a trailer is no record.
abbrev pub IsListed : Kind → Type 0
IsListed Digest = ⊥
IsListed Trailer = ⊥
IsListed kind = Unit {0}

-- of a head that it is the first record, and in a line no rebuilt mark
abbrev pub IsFirst : Kind → Line → Type 0
IsFirst Head l = (l.position ≡ 0) × (l.part ≡ 0)
IsFirst kind l = Unit {0}

-- What a line says, as a marker's fields. It says nothing of the set, so the target of a cut is only below all that no set is.
abbrev pub said_by : Line → Marker
said_by l = record {
  kind = l.kind;
  index = 0;
  k = 0;
  n = 0;
  set = COUNTER_END;
  position = l.position;
  fragment = l.fragment;
  stamp = l.stamp;
  upload = l.upload;
  part = l.part;
  parts = l.parts;
  length = l.length;
  payload = l.payload;
  array = [];
  name = l.name;
}

-- Each field has its width, keeps the limits that it has in a marker of this kind, and is 0 where the kind doesn't use it. How
-- long a fragment is isn't tied to the number of fragments: it is none exactly where there is no payload.
pub record IsLine (l : Line) : Type 0 where
  pub kind : Kind
  pub coded : l.kind ≡ code_of kind
  pub listed : IsListed kind
  pub first : IsFirst kind l
  pub stamp : IsUsed (has_stamp kind) l.stamp
  pub stamp_to : l.stamp < COUNTER_END
  pub upload : IsUsed (has_upload kind) l.upload
  pub upload_to : l.upload < COUNTER_END
  pub payload : IsUsed (has_payload kind) l.payload
  pub fragment : (l.fragment ≡ 0) ↔ (l.payload ≡ 0)
  pub name : IsNamed (has_name kind) l.name
  pub counts : Counts kind (said_by l)
  pub position_to : l.position < 2 ^ 16
  pub block_to : l.block < 2 ^ 32
  pub fragment_to : l.fragment < 2 ^ 16
  pub part_to : l.part < 2 ^ 32
  pub parts_to : l.parts < 2 ^ 32
  pub length_to : l.length < 2 ^ 32
  pub payload_to : l.payload < 2 ^ 32

-- the blocks that the record takes in a zone
abbrev pub blocks_of : Line → ℕ
blocks_of l = record_blocks l.fragment

-- ---- the one spelling: 320 bytes

-- the numbers of a line, in their widths
abbrev pub fields_of : Line → Fields
fields_of l =
    (w16, l.position) ∷ (w8, l.kind) ∷ (w32, l.block) ∷ (w16, l.fragment) ∷ (w64, l.stamp) ∷ (w64, l.upload)
    ∷ (w32, l.part) ∷ (w32, l.parts) ∷ (w32, l.length) ∷ (w32, l.payload) ∷ []

-- a name as in a marker, and zeros to the line's end
abbrev pub name_and_zeros : List ℕ → List ℕ
name_and_zeros name = name_field name ++ replicate 23 0

unfoldable pub spelling_of : Line → List ℕ
spelling_of l = spelled (fields_of l) ++ name_and_zeros (bytes_of_name l.name)
