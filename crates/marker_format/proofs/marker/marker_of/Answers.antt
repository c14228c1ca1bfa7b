use Rattle.marker_format.proofs.marker.marker_of.Goals as goal

pub returns : goal.returns
returns c = λ i. record {
  kind = c.read_u8.ensures.value i;
  index = c.read_u8-2.ensures.value i;
  k = c.read_u8-3.ensures.value i;
  n = c.read_u8-4.ensures.value i;
  set = c.read_u64.ensures.value i;
  position = c.read_u16.ensures.value i;
  fragment = c.read_u16-2.ensures.value i;
  stamp = c.read_u64-2.ensures.value i;
  upload = c.read_u64-3.ensures.value i;
  part = c.read_u32.ensures.value i;
  parts = c.read_u32-2.ensures.value i;
  length = c.read_u32-3.ensures.value i;
  payload = c.read_u32-4.ensures.value i;
  array = c.read_bytes.ensures.value i;
  name = c.name_at.ensures i;
}
