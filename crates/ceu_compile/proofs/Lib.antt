mod Broken
mod Outcomes
mod Parsing
mod Resolving
mod SizeCuts
mod Proper
mod Imaged
