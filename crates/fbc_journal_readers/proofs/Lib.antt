mod OutlineLaws
mod SketchLaws
mod PairLaws
