mod CommandLines
mod EachOption
mod Equals
mod OneSpelling
mod OptionLemmas
