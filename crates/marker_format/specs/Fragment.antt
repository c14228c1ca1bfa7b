-- How the bytes of a fragment lie in blocks, and how they are read from them.
use Rattle.std.specs.Prelude.{ℕ, zero, suc, List, [], ◌++◌, length, take, drop}
use Rattle.std.specs.Int.{div_ceil}
use Rattle.std.specs.List.{flat_map, range_with_len}
use Rattle.smore_base.specs.declared.limits.TheConstants.{CONTENT_BYTES}
use Rattle.marker_format.specs.declared.marker.Marker.{Marker}
use Rattle.marker_format.specs.Block.{data_block, marker_block}
use Rattle.marker_format.specs.Zone.{block_at}

-- how many blocks so many bytes take
abbrev pub blocks_of : ℕ → ℕ
blocks_of bytes = div_ceil bytes CONTENT_BYTES

-- so many blocks of a fragment, as many of its bytes in each as go in
abbrev pub blocks_from : ℕ → List ℕ → List ℕ
blocks_from zero bytes = []
blocks_from (suc count) bytes = data_block (take CONTENT_BYTES bytes) ++ blocks_from count (drop CONTENT_BYTES bytes)

-- a fragment as blocks
abbrev pub fragment_blocks : List ℕ → List ℕ
fragment_blocks bytes = blocks_from (blocks_of (length bytes)) bytes

-- a record's blocks in a zone: its marker's, and those of its fragment
abbrev pub record_bytes : Marker → List ℕ → List ℕ
record_bytes m fragment = marker_block m ++ fragment_blocks fragment

-- the content of the block of this number
abbrev pub content_at : List ℕ → ℕ → List ℕ
content_at zone block = drop 1 (block_at zone block)

-- the fragment of so many bytes that lies in the blocks from this one on
abbrev pub fragment_at : List ℕ → ℕ → ℕ → List ℕ
fragment_at zone block bytes = take bytes (flat_map (content_at zone) (range_with_len block (div_ceil bytes CONTENT_BYTES)))
