-- What an array tells.
use Rattle.std.specs.Prelude.{List, map, length}
use Rattle.zone_bay.specs.Contents.{Shape}
use Rattle.bay_memory.specs.declared.array.Array.{Array}
use Rattle.bay_memory.specs.Device.{View, view_of}

abbrev pub views_of : Array → List View
views_of array = map view_of array.devices.items

abbrev pub shape_of : Array → Shape
shape_of array = record { devices = length array.devices.items; zones = array.zones; blocks = array.blocks }
