mod BlockLaws
mod PlaceLaws
