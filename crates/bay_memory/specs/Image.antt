-- What an image tells.
use Rattle.zone_bay.specs.Contents.{Contents, Shape}
use Rattle.bay_memory.specs.declared.image.Image.{Image}
use Rattle.bay_memory.specs.Array.{contents_in}
use Rattle.bay_memory.specs.Views.{views_of, shape_of}

abbrev pub image_shape : Image → Shape
image_shape image = shape_of image.array

abbrev pub image_bytes : Image → Contents
image_bytes image = contents_in (views_of image.array)
